use Rattle.std.proofs.Common.{◌≡◌, ◌≤◌, ◌++◌, ◌∙◌, arith, length, map, ap}
use Rattle.std.specs.List.{flat_map}
use Rattle.std.proofs.lemmas.Option.{slice_get_past}
use Rattle.hierarchy.proofs.Indices.{take_whole}
use Rattle.linker.specs.linked_types.Tested.{tested_in, tested_in_row}
use Rattle.linker.proofs.linked_types.TestedClasses.{flat_mapped, type_tested, component_among, row_among}
use Rattle.linker.proofs.linked_types.tested.tested_classes.Goals as goal

all : (c : goal.After-loop-row) → c.loop-row.tested.items
    ≡ flat_map tested_in c.args.components.now ++ flat_map tested_in_row (map (λ row. row.items) c.args.rows.now)
all c =
    let rows = c.args.rows.now in
    let i = c.loop-row.row-index in
    let past : length rows ≤ i = omega (arith, c.loop-row-test.false) in
    c.loop-row.invariant
    ∙ ap (λ l. flat_map tested_in c.args.components.now ++ flat_map (λ row. tested_in_row row.items) l) (take_whole rows i (slice_get_past rows i past))
    ∙ ap (λ l. flat_map tested_in c.args.components.now ++ l) (flat_mapped (λ row. row.items) tested_in_row rows)

pub returns-clause-all : goal.returns-clause-all
returns-clause-all c = all c

pub returns-clause-rows : goal.returns-clause-rows
returns-clause-rows c files table linked columns class row at index t here type is =
    let tested = c.loop-row.tested.items in
    type_tested files table linked tested columns t type is (row_among (map (λ row. row.items) c.args.rows.now) c.args.components.now tested (all c) class row at index t here)

pub returns-clause-components : goal.returns-clause-components
returns-clause-components c files table linked columns number t at type is =
    let tested = c.loop-row.tested.items in
    type_tested files table linked tested columns t type is (component_among (map (λ row. row.items) c.args.rows.now) c.args.components.now tested (all c) number t at)
