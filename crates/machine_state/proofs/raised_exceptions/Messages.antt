-- The word of the message of an exception that an instruction raises, by the program.
use Rattle.std.proofs.Common.{◌≡◌, refl}
use Rattle.model.specs.Classes.{Program}
use Rattle.linked_code.specs.declared.program.LinkedProgram.{LinkedProgram}
use Rattle.machine_state.specs.declared.answers.MachineException.{MachineException}
use Rattle.machine_state.specs.declared.answers.MachineException.TheVariants as exception
use Rattle.machine_state.specs.Shown.{IsProgram}
use Rattle.machine_state.specs.raised_exceptions.Applied.{message_of}
use Rattle.machine_state.specs.raised_exceptions.Raised.{message_word}

pub message_is : (trees : Program) (p : LinkedProgram) → IsProgram trees p → (fault : MachineException) → message_of p fault ≡ message_word trees fault
message_is trees p program exception.NullPointer = refl
message_is trees p program exception.Arithmetic = program.linked.division_text
message_is trees p program exception.ArrayIndexOutOfBounds = refl
message_is trees p program exception.StringIndexOutOfBounds = refl
message_is trees p program exception.NegativeArraySize = refl
message_is trees p program exception.CloneNotSupported = refl
message_is trees p program exception.ArrayStore = refl
message_is trees p program exception.ClassCast = refl
message_is trees p program exception.IllegalMonitorState = refl
message_is trees p program exception.IllegalThreadState = refl
message_is trees p program exception.InterruptedWait = refl
message_is trees p program exception.IncompatibleClassChange = refl
message_is trees p program exception.AbstractMethod = refl
message_is trees p program exception.StackOverflow = refl
message_is trees p program exception.NoClassDefFound = refl
