use Rattle.std.proofs.Common.{◌≡◌, drop}
use Rattle.std.specs.List.{filter_map}
use Rattle.model.specs.Pool.{class_name_at}
use Rattle.hierarchy.specs.Above.{with_names}
use Rattle.hierarchy.proofs.name_table.add_interfaces.Given as goal

abbrev pub invariant-loop-index : goal.invariant-loop-index
invariant-loop-index l =
    with_names l.names (filter_map (class_name_at l.file.pool) (drop l.index-index l.file.interfaces.items)) ≡ with_names l.initial.names (filter_map (class_name_at l.file.pool) l.file.interfaces.items)
