use Rattle.std.proofs.Common.{sym}
use Rattle.classfile.specs.View.{file_of}
use Rattle.model.specs.Hierarchy.{in_cycle, has_bad_hierarchy}
use Rattle.std.proofs.lemmas.Result.{err_from_is_err_and}
use Rattle.linker.proofs.Stages.{rules_refused}
use Rattle.linker.proofs.Telling.{rules_tell}
use Rattle.linker.proofs.hierarchy_rules.check_rules.Goals as goal
use Rattle.hierarchy.proofs.Indices.{none_more}
use Rattle.hierarchy.proofs.Finding.{none_at}

pub check_file-requires-clause-acyclic : goal.check_file-requires-clause-acyclic
check_file-requires-clause-acyclic c = none_at (in_cycle c.args.set.now) c.args.set.now c.loop-number.number (file_of c.in-Some.file.now) c.requires.acyclic (sym c.in-Some.ensures)

pub returns-in_err-check_file-clause-refused : goal.returns-in_err-check_file-clause-refused
returns-in_err-check_file-clause-refused c =
    let p = err_from_is_err_and c.from_residual.result c.from_residual.ensures.1 in
    let e = c.in_err-check_file.field-0.0 in
    rw (p.1, p.2) (rules_refused c.args.set.now (file_of c.in-Some.file.now) c.loop-number.number e.kind e.file e.cause c.requires.passed (sym c.in-Some.ensures) c.in_err-check_file.ensures.refused)

pub loop-number-preserved : goal.loop-number-preserved
loop-number-preserved c = none_more (has_bad_hierarchy c.args.set.now) c.args.set.now c.loop-number.number (file_of c.in-Some.file.now) (sym c.in-Some.ensures) c.loop-number.invariant c.in_ok-check_file.ensures.passed

pub returns-in_err-check_file-clause-line : goal.returns-in_err-check_file-clause-line
returns-in_err-check_file-clause-line c =
    let p = err_from_is_err_and c.from_residual.result c.from_residual.ensures.1 in
    let e = c.in_err-check_file.field-0.0 in
    rw (p.1, p.2)
    (rules_tell c.args.set.now c.loop-number.number (file_of c.in-Some.file.now) e (sym c.in-Some.ensures) c.requires.acyclic c.loop-number.invariant c.in_err-check_file.ensures.line)
