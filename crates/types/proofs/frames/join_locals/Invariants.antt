use Rattle.std.proofs.Common.{◌≡◌, ◌++◌, map, drop, Some}
use Rattle.std.specs.Prelude.{option_map}
use Rattle.model.specs.TypeJoin.{join_pairwise, local_join}
use Rattle.types.specs.View.{type_in}
use Rattle.types.proofs.frames.join_locals.Given as goal

abbrev pub invariant-loop-i : goal.invariant-loop-i
invariant-loop-i l =
    option_map (λ rest. map (type_in l.set) l.joined.items ++ rest) (join_pairwise (λ s t. Some (local_join l.set s t)) (map (type_in l.set) (drop l.i l.a)) (map (type_in l.set) (drop l.i l.b)))
    ≡ join_pairwise (λ s t. Some (local_join l.set s t)) (map (type_in l.set) l.a) (map (type_in l.set) l.b)
