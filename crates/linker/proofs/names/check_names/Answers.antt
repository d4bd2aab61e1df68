use Rattle.std.proofs.Common.{◌∙◌, sym, ap}
use Rattle.std.specs.Prelude.{slice_get}
use Rattle.classfile.specs.View.{file_of}
use Rattle.model.specs.Resolution.{is_unresolved}
use Rattle.std.proofs.lemmas.Result.{err_from_is_err_and}
use Rattle.linker.proofs.Stages.{names_refused}
use Rattle.linker.proofs.Telling.{names_tell}
use Rattle.linker.proofs.names.check_names.Goals as goal
use Rattle.hierarchy.proofs.Indices.{none_more}

pub returns-in_err-check_file-clause-refused : goal.returns-in_err-check_file-clause-refused
returns-in_err-check_file-clause-refused c =
    let p = err_from_is_err_and c.from_residual.result c.from_residual.ensures.1 in
    let e = c.in_err-check_file.field-0.0 in
    let at = sym (c.in-Some.ensures ∙ ap (λ s. slice_get s c.loop-number.number) c.set-set.ensures) in
    rw (p.1, p.2) (names_refused c.args.hierarchy.now (file_of c.in-Some.file.now) c.loop-number.number e.kind e.file e.cause c.requires at c.in_err-check_file.ensures.refused)

pub loop-number-preserved : goal.loop-number-preserved
loop-number-preserved c =
    let at = sym (c.in-Some.ensures ∙ ap (λ s. slice_get s c.loop-number.number) c.set-set.ensures) in
    none_more (is_unresolved c.args.hierarchy.now) c.args.hierarchy.now c.loop-number.number (file_of c.in-Some.file.now) at c.loop-number.invariant c.in_ok-check_file.ensures.passed

pub returns-in_err-check_file-clause-line : goal.returns-in_err-check_file-clause-line
returns-in_err-check_file-clause-line c =
    let p = err_from_is_err_and c.from_residual.result c.from_residual.ensures.1 in
    let e = c.in_err-check_file.field-0.0 in
    let at = sym (c.in-Some.ensures ∙ ap (λ s. slice_get s c.loop-number.number) c.set-set.ensures) in
    rw (p.1, p.2)
    (names_tell c.args.hierarchy.now c.loop-number.number (file_of c.in-Some.file.now) e at c.loop-number.invariant c.in_err-check_file.ensures.line)
