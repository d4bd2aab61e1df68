use Rattle.std.proofs.Common.{◌≡◌, map, drop}
use Rattle.model.specs.Types.{type_meets}
use Rattle.model.specs.Operands.{pops_meet}
use Rattle.types.specs.View.{frame_in}
use Rattle.instruction_types.specs.operand_types.View.{want_in}
use Rattle.instruction_types.proofs.operand_types.ready.pops_meet.Given as goal

abbrev pub invariant-loop-i : goal.invariant-loop-i
invariant-loop-i l =
    pops_meet (type_meets l.set) (map (want_in l.set) (drop l.i l.pops)) (drop l.i (frame_in l.set l.frame).slots.stack)
    ≡ pops_meet (type_meets l.set) (map (want_in l.set) l.pops) (frame_in l.set l.frame).slots.stack
