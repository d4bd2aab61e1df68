use Rattle.std.proofs.Common.{◌≡◌, drop, map}
use Rattle.std.specs.List.{list_any}
use Rattle.constant_pool.specs.View.{reference_of}
use Rattle.hierarchy.specs.Places.{member_in}
use Rattle.model.specs.Names.{member_eq}
use Rattle.link_conditions.proofs.resolution.member.is_among.Given as goal

abbrev pub invariant-loop-wanted : goal.invariant-loop-wanted
invariant-loop-wanted l =
    list_any (member_eq (member_in l.set (reference_of l.member) l.place)) (map reference_of l.all)
    ≡ list_any (member_eq (member_in l.set (reference_of l.member) l.place)) (map reference_of (drop l.wanted-index l.all))
