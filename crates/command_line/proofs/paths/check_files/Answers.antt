use Rattle.std.proofs.Common.{◌∙◌, ap, string_bytes, subst, sym}
use Rattle.std.proofs.lemmas.Result.{err_from_is_err_and}
use Rattle.clap.specs.Words.{first_of, found_of, rows_of}
use Rattle.command_line.specs.Paths.{IsApart}
use Rattle.command_line.proofs.CommandLineLemmas.{refuses_more}
use Rattle.command_line.proofs.PathLemmas.{one_more_path, path_among}
use Rattle.command_line.proofs.paths.check_files.Goals as goal

pub loop-path-preserved : goal.loop-path-preserved
loop-path-preserved c =
    let other = IsApart (first_of c.args.option.now (rows_of (found_of c.args.matches.now))) in
    let path = c.path-item.result in
    one_more_path other c.args.read.now c.loop-path.path-index path c.loop-path-test.true c.loop-path.invariant
    (subst other (c.as_str.ensures.value ∙ ap string_bytes c.path-item.is) c.in_ok-check_file.ensures.apart)

pub returns-in_err-check_file-clause-none : goal.returns-in_err-check_file-clause-none
returns-in_err-check_file-clause-none c =
    let p = err_from_is_err_and c.from_residual.result c.from_residual.ensures.1 in
    let other = IsApart (first_of c.args.option.now (rows_of (found_of c.args.matches.now))) in
    let path = c.path-item.result in
    rw (p.1, p.2)
    (refuses_more c.in_err-check_file.field-0.0 _ _
    (λ none all. none (subst other (sym (c.as_str.ensures.value ∙ ap string_bytes c.path-item.is)) (path_among other c.args.read.now c.loop-path.path-index path c.loop-path-test.true all)))
    c.in_err-check_file.ensures.none)
