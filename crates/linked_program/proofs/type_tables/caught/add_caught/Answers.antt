use Rattle.std.proofs.Common.{◌≤◌, ◌++◌, ◌∙◌, arith, length, ap}
use Rattle.std.specs.List.{flat_map}
use Rattle.std.proofs.lemmas.Option.{slice_get_past}
use Rattle.hierarchy.proofs.Indices.{take_whole}
use Rattle.linker.proofs.linked_types.TestedClasses.{flat_mapped}
use Rattle.linked_program.specs.type_tables.Rows.{caught_in}
use Rattle.linked_program.proofs.type_tables.caught.add_caught.Goals as goal

pub returns : goal.returns
returns c =
    let rows = c.args.rows.now in
    let i = c.loop-row.row-index in
    let past : length rows ≤ i = omega (arith, c.loop-row-test.false) in
    c.loop-row.invariant
    ∙ ap (λ l. c.args.tested.now.items ++ flat_map (λ row. caught_in row.items) l) (take_whole rows i (slice_get_past rows i past))
    ∙ ap (λ l. c.args.tested.now.items ++ l) (flat_mapped (λ row. row.items) caught_in rows)
