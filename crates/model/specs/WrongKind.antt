-- When a thread meets a missing instruction, or an operand that is missing or of a wrong kind: what verification rules out.
use Rattle.std.specs.Prelude.{ℕ, List, [], ◌∷◌, Option, Some, None, Bool, false, not, slice_get}
use Rattle.std.specs.Option.{option_and_then}
use Rattle.model.specs.declared.value.Value.{Value}
use Rattle.model.specs.Classes.{Program, Body, body_of}
use Rattle.model.specs.ReferenceTypes.{ReferenceType}
use Rattle.model.specs.Types.{value_meets}
use Rattle.model.specs.Operands.{values, over_values, is_ready}
use Rattle.model.specs.State.{types_of, ThreadStatus, Running, Waiting, Relock, Ended, Thread, Frame, Invocation, Initialisation, StackOf, State}
use Rattle.model.specs.Sites.{MeaningOf, site_at}
use Rattle.model.specs.Meanings.{meaning_of}

-- The operands are there and as wanted: a reference where one is wanted, an int where one is, of the class or array that
-- the instruction names; and the stack does not pass max_stack. An instruction that is to stand elsewhere, as a return
-- of another kind than the method's, finds nothing.
abbrev pub finds_operands : Program → List ReferenceType → ℕ → Frame → Option (MeaningOf Value) → Bool
finds_operands files objects max_stack frame None = false
finds_operands files objects max_stack frame (Some meaning) = is_ready (value_meets files objects) over_values meaning.wants max_stack frame.place.slots

abbrev pub finds_in : Program → List ReferenceType → Frame → Option Body → Bool
finds_in files objects frame None = false
finds_in files objects frame (Some body) =
    finds_operands files objects body.code.max_stack frame (option_and_then (meaning_of values files) (site_at frame.method body frame.place.offset))

-- a frame finds an instruction at its offset, and its operands
abbrev pub finds : Program → List ReferenceType → Frame → Bool
finds files objects frame = finds_in files objects frame (body_of files frame.method)

-- a frame on top is about to do its instruction, and does not find it
abbrev pub is_wrong_on : Program → List ReferenceType → Option ℕ → StackOf Value → Bool
is_wrong_on files objects pending [] = false
is_wrong_on files objects (Some exception) (Invocation frame ∷ stack) = false
is_wrong_on files objects None (Invocation frame ∷ stack) = not (finds files objects frame)
is_wrong_on files objects pending (Initialisation class phase ∷ stack) = false

abbrev pub is_wrong_by : Program → List ReferenceType → Option ℕ → StackOf Value → ThreadStatus → Bool
is_wrong_by files objects pending stack Running = is_wrong_on files objects pending stack
is_wrong_by files objects pending stack (Waiting object count) = false
is_wrong_by files objects pending stack (Relock object count cause) = false
is_wrong_by files objects pending stack (Ended exception) = false

abbrev pub is_wrong_of : Program → List ReferenceType → Option Thread → Option (StackOf Value) → Bool
is_wrong_of files objects None stack = false
is_wrong_of files objects (Some thread) None = false
is_wrong_of files objects (Some thread) (Some stack) = is_wrong_by files objects thread.pending stack thread.status

-- the thread runs with no pending exception and a frame on top, which does not find its instruction and operands
abbrev pub has_wrong_kind : Program → State → ℕ → Bool
has_wrong_kind files state t =
    is_wrong_of files (types_of state.world.heap) (slice_get state.world.threads t) (slice_get state.stacks t)
