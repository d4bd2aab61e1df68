use Rattle.std.proofs.Common.{◌≡◌, map, drop}
use Rattle.model.specs.TypeOrder.{pairwise, is_local_below}
use Rattle.types.specs.View.{type_in}
use Rattle.types.proofs.frames.are_locals_below.Given as goal

abbrev pub invariant-loop-i : goal.invariant-loop-i
invariant-loop-i l =
    pairwise (is_local_below l.set) (map (type_in l.set) (drop l.i l.a)) (map (type_in l.set) (drop l.i l.b)) ≡ pairwise (is_local_below l.set) (map (type_in l.set) l.a) (map (type_in l.set) l.b)
