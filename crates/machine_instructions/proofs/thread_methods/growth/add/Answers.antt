use Rattle.std.proofs.Common.{arith}
use Rattle.machine_instructions.proofs.thread_methods.growth.add.Goals as goal

pub push_reserved-requires : goal.push_reserved-requires
push_reserved-requires g c = omega (arith, c.take_room.ensures.room 1 c.requires)
