use Rattle.std.proofs.Common.{◌≡◌, ◌++◌, map, drop}
use Rattle.std.specs.Prelude.{option_map}
use Rattle.model.specs.TypeJoin.{join_pairwise, stack_join}
use Rattle.types.specs.View.{type_in}
use Rattle.types.proofs.frames.join_stack.Given as goal

abbrev pub invariant-loop-i : goal.invariant-loop-i
invariant-loop-i l =
    option_map (λ rest. map (type_in l.set) l.joined.items ++ rest) (join_pairwise (stack_join l.set) (map (type_in l.set) (drop l.i l.a)) (map (type_in l.set) (drop l.i l.b)))
    ≡ join_pairwise (stack_join l.set) (map (type_in l.set) l.a) (map (type_in l.set) l.b)
