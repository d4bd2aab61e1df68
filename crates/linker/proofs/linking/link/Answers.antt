use Rattle.std.proofs.Common.{map, vec_items}
use Rattle.std.proofs.lemmas.Result.{err_from_is_err_and}
use Rattle.hierarchy.specs.Set.{trees_of}
use Rattle.linker.proofs.Decoded.{unread_memory}
use Rattle.linker.proofs.Telling.{of_files}
use Rattle.linker.proofs.linking.link.Goals as goal

pub returns-in_err-classes-clause-only : goal.returns-in_err-classes-clause-only
returns-in_err-classes-clause-only c =
    let p = err_from_is_err_and c.from_residual.result c.from_residual.ensures.1 in
    let e = c.in_err-classes.field-0.0 in
    λ trees l. rw (p.1, p.2) (unread_memory (map vec_items c.args.files.now) trees e.kind e.file e.offset e.cause l.spelled c.in_err-classes.ensures.refused)

pub returns-in_err-hierarchy-clause-line : goal.returns-in_err-hierarchy-clause-line
returns-in_err-hierarchy-clause-line c =
    let p = err_from_is_err_and c.from_residual-in_err-hierarchy.result c.from_residual-in_err-hierarchy.ensures.1 in
    let e = c.in_err-hierarchy.field-0.0 in
    rw (p.1, p.2) (of_files (map vec_items c.args.files.now) (trees_of c.in_ok-classes.classes.items) e c.in_ok-classes.ensures.found c.in_err-hierarchy.ensures.line)
