use Rattle.std.proofs.Common.{◌≡◌, drop}
use Rattle.std.specs.List.{list_any, filter_map}
use Rattle.model.specs.Pool.{class_name_at}
use Rattle.model.specs.Resolution.{is_missing}
use Rattle.link_conditions.proofs.resolution.class.interface_missing.Given as goal

abbrev pub invariant-loop-index : goal.invariant-loop-index
invariant-loop-index l =
    list_any (is_missing l.set) (filter_map (class_name_at l.file.pool) l.file.interfaces.items)
    ≡ list_any (is_missing l.set) (filter_map (class_name_at l.file.pool) (drop l.index-index l.file.interfaces.items))
