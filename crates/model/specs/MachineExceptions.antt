-- The exceptions that the machine makes (JVMS 2.10): each is an object of its class, with no call of a constructor (own). Its fields
-- are null but for the message of a division by zero, and for the cause of what replaces the exception of an initialiser (JVMS 5.5).
use Rattle.std.specs.Prelude.{ℕ, List, Option, Some, None}
use Rattle.model.specs.Names.{throwable_message, throwable_cause}
use Rattle.model.specs.Classes.{Program}
use Rattle.model.specs.StringConstants.{division_text}
use Rattle.model.specs.Operands.{Carrier}
use Rattle.model.specs.State.{ObjectOf}
use Rattle.model.specs.Opening.{first_instance, string_reference}
use Rattle.model.specs.Outcomes.{MachineException, exception_class, Arithmetic}
use Rattle.model.specs.Worlds.{with_field}

-- the text of its message, if it has one
abbrev pub message_of : MachineException → Option (List ℕ)
message_of Arithmetic = Some division_text
message_of other = None

-- the constant of the text is its message
abbrev pub with_message : {A : Type 0} → Carrier A → Program → Option (List ℕ) → ObjectOf A → ObjectOf A
with_message C files None object = object
with_message C files (Some text) object = with_field throwable_message (C.reference (string_reference files text)) object

-- another exception is its cause
abbrev pub with_cause : {A : Type 0} → Carrier A → Option ℕ → ObjectOf A → ObjectOf A
with_cause C None object = object
with_cause C (Some exception) object = with_field throwable_cause (C.reference exception) object

abbrev pub machine_exception : {A : Type 0} → Carrier A → Program → MachineException → Option ℕ → ObjectOf A
machine_exception C files fault cause = with_cause C cause (with_message C files (message_of fault) (first_instance C files (exception_class fault)))
