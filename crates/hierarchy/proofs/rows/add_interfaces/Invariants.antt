use Rattle.std.proofs.Common.{◌≡◌, ◌∷◌, ℕ, List, drop}
use Rattle.std.specs.List.{flat_map, filter_map}
use Rattle.model.specs.Names.{Name}
use Rattle.model.specs.Pool.{class_name_at}
use Rattle.hierarchy.specs.Above.{with_names, row_of}
use Rattle.hierarchy.specs.Numbers.{names_of, named_rows}
use Rattle.hierarchy.proofs.rows.add_interfaces.Given as goal

abbrev pub invariant-loop-index : goal.invariant-loop-index
invariant-loop-index l =
    let from : List ℕ → List Name = λ indices. flat_map (λ n. n ∷ row_of l.set (named_rows l.names l.rows) n) (filter_map (class_name_at l.file.pool) indices) in
    with_names (names_of l.names l.row) (from (drop l.index-index l.file.interfaces.items)) ≡ with_names (names_of l.names l.initial.row) (from l.file.interfaces.items)
