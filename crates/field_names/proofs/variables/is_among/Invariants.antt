use Rattle.std.proofs.Common.{◌≡◌, drop, map}
use Rattle.std.specs.List.{list_any}
use Rattle.constant_pool.specs.View.{reference_of}
use Rattle.hierarchy.specs.Places.{member_in}
use Rattle.model.specs.Names.{member_eq}
use Rattle.field_names.proofs.variables.is_among.Given as goal

abbrev pub invariant-loop-other : goal.invariant-loop-other
invariant-loop-other l =
    list_any (member_eq (member_in l.set (reference_of l.field) l.place)) (map reference_of l.all)
    ≡ list_any (member_eq (member_in l.set (reference_of l.field) l.place)) (map reference_of (drop l.other-index l.all))
