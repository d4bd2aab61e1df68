-- Where the classes of exceptions stand among the built-in ones.
use Rattle.std.proofs.Common.{refl}
use Rattle.model.specs.Classes.{Program}
use Rattle.model.specs.BuiltIn.{built_in_classes}
use Rattle.model.specs.BuiltInNumbers.{exception_in_initializer_error}
use Rattle.model.specs.Outcomes.{exception_class, ExceptionInInitializer}
use Rattle.machine_state.specs.declared.answers.MachineException.{MachineException}
use Rattle.machine_state.specs.declared.answers.MachineException.TheVariants as exception
use Rattle.machine_state.specs.Instructions.{shown_exception}
use Rattle.machine_state.specs.raised_exceptions.Raised.{IsNumbered, class_number}

pub numbered : (trees : Program) (fault : MachineException) → IsNumbered trees (class_number fault) (exception_class (shown_exception fault))
unfolding built_in_classes
numbered trees exception.NullPointer = record { class = (_, refl, refl); other = refl; fields = refl }
numbered trees exception.Arithmetic = record { class = (_, refl, refl); other = refl; fields = refl }
numbered trees exception.ArrayIndexOutOfBounds = record { class = (_, refl, refl); other = refl; fields = refl }
numbered trees exception.StringIndexOutOfBounds = record { class = (_, refl, refl); other = refl; fields = refl }
numbered trees exception.NegativeArraySize = record { class = (_, refl, refl); other = refl; fields = refl }
numbered trees exception.CloneNotSupported = record { class = (_, refl, refl); other = refl; fields = refl }
numbered trees exception.ArrayStore = record { class = (_, refl, refl); other = refl; fields = refl }
numbered trees exception.ClassCast = record { class = (_, refl, refl); other = refl; fields = refl }
numbered trees exception.IllegalMonitorState = record { class = (_, refl, refl); other = refl; fields = refl }
numbered trees exception.IllegalThreadState = record { class = (_, refl, refl); other = refl; fields = refl }
numbered trees exception.InterruptedWait = record { class = (_, refl, refl); other = refl; fields = refl }
numbered trees exception.IncompatibleClassChange = record { class = (_, refl, refl); other = refl; fields = refl }
numbered trees exception.AbstractMethod = record { class = (_, refl, refl); other = refl; fields = refl }
numbered trees exception.StackOverflow = record { class = (_, refl, refl); other = refl; fields = refl }
numbered trees exception.NoClassDefFound = record { class = (_, refl, refl); other = refl; fields = refl }

pub error_numbered : (trees : Program) → IsNumbered trees exception_in_initializer_error (exception_class ExceptionInInitializer)
unfolding built_in_classes
error_numbered trees = record { class = (_, refl, refl); other = refl; fields = refl }
