use Rattle.std.proofs.Common.{sym, take}
use Rattle.classfile.specs.View.{file_of}
use Rattle.model.specs.Profile.{is_outside_profile}
use Rattle.model.specs.CodeConditions.{has_malformed_code}
use Rattle.std.proofs.lemmas.Result.{err_from_is_err_and}
use Rattle.linker.proofs.Stages.{walk_refused}
use Rattle.linker.specs.Telling.{NoFault}
use Rattle.linker.proofs.Telling.{walk_tells}
use Rattle.linker.proofs.profile_walk.check_profile.Goals as goal
use Rattle.hierarchy.proofs.Indices.{none_more}

pub returns-in_err-check_file-clause-refused : goal.returns-in_err-check_file-clause-refused
returns-in_err-check_file-clause-refused c =
    let p = err_from_is_err_and c.from_residual.result c.from_residual.ensures.1 in
    let e = c.in_err-check_file.field-0.0 in
    rw (p.1, p.2) (walk_refused c.args.set.now (file_of c.in-Some.file.now) c.loop-number.number e.kind e.file e.cause c.requires (sym c.in-Some.ensures) c.in_err-check_file.ensures.refused)

pub loop-number-preserved : goal.loop-number-preserved
loop-number-preserved c =
    let trees = c.args.set.now in
    let i = c.loop-number.number in
    let tree = file_of c.in-Some.file.now in
    record {
      inside = none_more is_outside_profile trees i tree (sym c.in-Some.ensures) c.loop-number.invariant.inside c.in_ok-check_file.ensures.inside;
      whole = none_more (has_malformed_code trees) trees i tree (sym c.in-Some.ensures) c.loop-number.invariant.whole c.in_ok-check_file.ensures.whole;
    }

pub returns-in_err-check_file-clause-line : goal.returns-in_err-check_file-clause-line
returns-in_err-check_file-clause-line c =
    let p = err_from_is_err_and c.from_residual.result c.from_residual.ensures.1 in
    let e = c.in_err-check_file.field-0.0 in
    let trees = c.args.set.now in
    let before : NoFault trees (take c.loop-number.number trees) = (c.loop-number.invariant.inside, c.loop-number.invariant.whole) in
    rw (p.1, p.2)
    (walk_tells trees c.loop-number.number (file_of c.in-Some.file.now) e (sym c.in-Some.ensures) before c.in_err-check_file.ensures.line)
