use Rattle.std.proofs.Common.{arith}
use Rattle.machine_instructions.proofs.thread_methods.Printed.{has_room}
use Rattle.machine_instructions.proofs.thread_methods.printing.room_for.Goals as goal

pub returns-in-Println : goal.returns-in-Println
returns-in-Println c =
    record { room = has_room c.args.print c.args.heap.now.objects c.args.word (omega (arith, c.ranges.word.fits)) c.in-Println.is; fits = omega arith }
