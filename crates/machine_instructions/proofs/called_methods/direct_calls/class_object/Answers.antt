use Rattle.std.proofs.Common.{sym}
use Rattle.machine_instructions.proofs.called_methods.ClassObjects.{class_object_is, missing}
use Rattle.machine_instructions.proofs.called_methods.direct_calls.class_object.Goals as goal

pub returns-in-Some : goal.returns-in-Some
returns-in-Some c = λ trees program callee at.
    class_object_is c.methods_are_read.ensures.holds trees c.args.program.now program c.args.method callee at c.in-Some.row.now (sym c.in-Some.ensures) c.class_object_of.result c.class_object_of.ensures

pub returns-in-None : goal.returns-in-None
returns-in-None c = λ trees program callee at. absurd (missing c.methods_are_read.ensures.holds trees c.args.program.now program c.args.method callee at (sym c.in-None.ensures))
