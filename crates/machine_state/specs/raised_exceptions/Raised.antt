-- Exceptions that the machine makes, with no call of a constructor (JVMS 2.10).
use Rattle.std.specs.Prelude.{◌≡◌, ◌+◌, ◌<◌, ◌≤◌, ◌^◌, ℕ, suc, List, [], ◌∷◌, Option, Some, false, length, Result, Ok, Err}
use Rattle.std.specs.Option.{option_map_or}
use Rattle.model.specs.BuiltInNumbers.{abstract_method_error, arithmetic_exception, array_index_out_of_bounds_exception, array_store_exception, class_cast_exception, clone_not_supported_exception, illegal_monitor_state_exception, illegal_thread_state_exception, incompatible_class_change_error, interrupted_exception, negative_array_size_exception, no_class_def_found_error, null_pointer_exception, stack_overflow_error, string_index_out_of_bounds_exception}
use Rattle.model.specs.Names.{Name, Member, name_eq, java_lang_string, throwable_message, throwable_cause, throwable_suppressed}
use Rattle.model.specs.Classes.{Program}
use Rattle.model.specs.Lookup.{instance_fields}
use Rattle.model.specs.State.{StackOf, WorldOf}
use Rattle.model.specs.Opening.{string_reference}
use Rattle.model.specs.Operands.{words}
use Rattle.model.specs.Outcomes.{exception_class, ExceptionInInitializer}
use Rattle.model.specs.MachineExceptions.{message_of}
use Rattle.model.specs.LimitStands.{Bounds}
use Rattle.model.specs.Step.{raised, raised_for, raised_by_interrupt}
use Rattle.heap.specs.declared.kind.ObjectKind.TheVariants as kind
use Rattle.heap.specs.declared.refusal.AllocRefusal.{AllocRefusal}
use Rattle.heap.specs.Heap.{Object, Heap, made, with_object, IsRefused}
use Rattle.linked_code.specs.declared.program.LinkedProgram.{LinkedProgram}
use Rattle.linked_code.specs.Numbers.{IsClassAt}
use Rattle.thread_stacks.specs.Stacks.{ShownEntry}
use Rattle.machine_state.specs.shown_stacks.Shown.{ShowsStack}
use Rattle.machine_state.specs.declared.answers.Answer.{Answer}
use Rattle.machine_state.specs.declared.answers.MachineException.{MachineException}
use Rattle.machine_state.specs.declared.answers.MachineException.TheVariants as exception
use Rattle.machine_state.specs.declared.refusals.EventRefusal.{EventRefusal}
use Rattle.machine_state.specs.declared.state.Shared.{Shared}
use Rattle.machine_state.specs.Instructions.{shown_exception}
use Rattle.machine_state.specs.Shown.{Represents}
use Rattle.machine_state.specs.Events.{Becomes}

-- ---- classes of exceptions

-- the place of the class among the built-in classes, which come first
abbrev pub class_number : MachineException → ℕ
class_number exception.NullPointer = null_pointer_exception
class_number exception.Arithmetic = arithmetic_exception
class_number exception.ArrayIndexOutOfBounds = array_index_out_of_bounds_exception
class_number exception.StringIndexOutOfBounds = string_index_out_of_bounds_exception
class_number exception.NegativeArraySize = negative_array_size_exception
class_number exception.CloneNotSupported = clone_not_supported_exception
class_number exception.ArrayStore = array_store_exception
class_number exception.ClassCast = class_cast_exception
class_number exception.IllegalMonitorState = illegal_monitor_state_exception
class_number exception.IllegalThreadState = illegal_thread_state_exception
class_number exception.InterruptedWait = interrupted_exception
class_number exception.IncompatibleClassChange = incompatible_class_change_error
class_number exception.AbstractMethod = abstract_method_error
class_number exception.StackOverflow = stack_overflow_error
class_number exception.NoClassDefFound = no_class_def_found_error

-- ---- their fields

abbrev pub throwable_fields : List Member
throwable_fields = throwable_message ∷ throwable_cause ∷ throwable_suppressed ∷ []

-- the word of the String of a text, if there is one; else 0
abbrev pub text_word : Program → Option Name → ℕ
text_word trees text = option_map_or (λ (t : Name). suc (string_reference trees t)) text 0

-- the word of the message of an exception, 0 where it has none
abbrev pub message_word : Program → MachineException → ℕ
message_word trees fault = text_word trees (message_of (shown_exception fault))

-- it is the class of the exception, which is not String, and has the fields of Throwable
pub record IsNumbered (trees : Program) (number : ℕ) (class_is : Name) : Type 0 where
  pub class : IsClassAt trees number class_is
  pub other : name_eq class_is java_lang_string ≡ false
  pub fields : instance_fields trees class_is ≡ throwable_fields

abbrev pub AreNumbered : Type 0
AreNumbered = (trees : Program) (fault : MachineException) → IsNumbered trees (class_number fault) (exception_class (shown_exception fault))

-- ---- their objects

-- an object of a class with the fields of Throwable, by the words of its message and its cause
abbrev pub telling_object : (class message cause : ℕ) → Object
telling_object class message cause = record { kind = kind.Instance class; words = message ∷ cause ∷ 0 ∷ [] }

-- it was made, and no limit stood; it counts as no cell
pub record IsMadeWith (reference class message cause : ℕ) (old new : Heap) : Type 0 where
  pub answer : reference ≡ length old.objects
  pub fits : reference + 1 < 2 ^ 32
  pub opened : old.opening ≤ length old.objects
  pub objects : made old < old.object_limit
  pub cells : old.counted + 0 ≤ old.cell_limit
  pub after : new ≡ with_object old (telling_object class message cause) 0

abbrev pub MakesWith : Result ℕ AllocRefusal → (class message cause : ℕ) → Heap → Heap → Type 0
MakesWith (Ok reference) class message cause old new = IsMadeWith reference class message cause old new
MakesWith (Err refusal) class message cause old new = IsRefused refusal 0 old new

-- ---- what raises them

-- in each world that is shown, and over each stack of the thread, where the word of the message is given
abbrev pub IsRaised : Result Answer EventRefusal → MachineException → (message t : ℕ) → Shared → Shared → Type 0
IsRaised result fault message t old new =
    (trees : Program) (p : LinkedProgram) (bounds : Bounds) (inflated : List ℕ) (world : WorldOf ℕ) → Represents trees p bounds old world
    → message ≡ message_word trees fault
    → (shown : List ShownEntry) (own : StackOf ℕ) → ShowsStack trees p shown own
    → Becomes trees p bounds inflated world (raised words trees t (shown_exception fault) world own) result old new shown shown

-- where the exception that is the cause is an object
abbrev pub IsRaisedInInitialiser : Result Answer EventRefusal → (exception t : ℕ) → Shared → Shared → Type 0
IsRaisedInInitialiser result exception t old new =
    (trees : Program) (p : LinkedProgram) (bounds : Bounds) (inflated : List ℕ) (world : WorldOf ℕ) → Represents trees p bounds old world
    → (length old.heap.objects < 2 ^ 32 → exception < length old.heap.objects)
    → (shown : List ShownEntry) (own : StackOf ℕ) → ShowsStack trees p shown own
    → Becomes trees p bounds inflated world (raised_for words trees t ExceptionInInitializer (Some exception) world own) result old new shown shown

abbrev pub IsRaisedByInterrupt : Result Answer EventRefusal → (t : ℕ) → Shared → Shared → Type 0
IsRaisedByInterrupt result t old new =
    (trees : Program) (p : LinkedProgram) (bounds : Bounds) (inflated : List ℕ) (world : WorldOf ℕ) → Represents trees p bounds old world
    → (shown : List ShownEntry) (own : StackOf ℕ) → ShowsStack trees p shown own
    → Becomes trees p bounds inflated world (raised_by_interrupt words trees t world own) result old new shown shown
