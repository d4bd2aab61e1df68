use Rattle.std.proofs.Common.{◌≡◌, map, drop}
use Rattle.model.specs.TypeOrder.{pairwise, is_stack_below}
use Rattle.types.specs.View.{type_in}
use Rattle.types.proofs.frames.is_stack_of_types_below.Given as goal

abbrev pub invariant-loop-i : goal.invariant-loop-i
invariant-loop-i l =
    pairwise (is_stack_below l.set) (map (type_in l.set) (drop l.i l.a)) (map (type_in l.set) (drop l.i l.b)) ≡ pairwise (is_stack_below l.set) (map (type_in l.set) l.a) (map (type_in l.set) l.b)
