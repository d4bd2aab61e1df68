-- Local events (own: those of an instruction that touches its frame alone, and throws nothing), and what they leave.
use Rattle.std.specs.Prelude.{ℕ, List, [], ◌∷◌, Option, Some, None, Bool, false, if◌then◌else◌, is_none, is_some, map, slice_get, slice_set}
use Rattle.std.specs.Option.{option_map, option_and_then}
use Rattle.model.specs.declared.value.Value.{Value}
use Rattle.model.specs.Pool.{integers_of}
use Rattle.model.specs.Classes.{Program, Body, body_of}
use Rattle.model.specs.Operands.{operands, over_values, word_of}
use Rattle.model.specs.Rows.{Row, row_wants, after_row, row_target, local_row}
use Rattle.model.specs.Sites.{Site, site_at}
use Rattle.model.specs.Frames.{at_offset}
use Rattle.model.specs.State.{ThreadStatus, Running, Waiting, Relock, Ended, Frame, Invocation, Initialisation, StackOf, State}
use Rattle.model.specs.Worlds.{thread_at}

-- ---- an instruction

-- its row, where it is local (JVMS 6.5)
abbrev pub row_at : Site → Option Row
row_at site = local_row (integers_of site.body.pool) site.body.code.code site.offset site.next site.instr

abbrev pub row_in : Frame → Body → Option Row
row_in frame body = option_and_then row_at (site_at frame.method body frame.place.offset)

-- the row of the instruction at the offset of a frame
abbrev pub frame_row : Program → Frame → Option Row
frame_row files frame = option_and_then (row_in frame) (body_of files frame.method)

-- the words of its operands
abbrev pub operand_words : Frame → Row → List ℕ
operand_words frame row = map word_of (operands over_values (row_wants row) frame.place.slots)

-- the frame after it, where it throws no ArithmeticException
abbrev pub after_local : Frame → Row → Option Frame
after_local frame row =
    if row.fails (operand_words frame row) then None else Some (at_offset frame (row_target row (operand_words frame row)) (after_row over_values row frame.place.slots))

-- ---- a thread

-- the stack after the local instruction of the frame on top, if there is one
abbrev pub local_stack : Program → StackOf Value → Option (StackOf Value)
local_stack files [] = None
local_stack files (Invocation frame ∷ stack) = option_map (λ after. Invocation after ∷ stack) (option_and_then (after_local frame) (frame_row files frame))
local_stack files (Initialisation class phase ∷ stack) = None

-- it runs, with no exception pending
abbrev pub is_going : ThreadStatus → Option ℕ → Bool
is_going Running pending = is_none pending
is_going (Waiting object count) pending = false
is_going (Relock object count cause) pending = false
is_going (Ended exception) pending = false

-- the stack of a thread after its next event, if that is local
abbrev pub next_local : Program → State → ℕ → Option (StackOf Value)
next_local files state t =
    if is_going (thread_at state.world t).status (thread_at state.world t).pending then option_and_then (local_stack files) (slice_get state.stacks t) else None

abbrev pub is_local : Program → State → ℕ → Bool
is_local files state t = is_some (next_local files state t)

-- the state with another stack of a thread
abbrev pub with_stack : State → ℕ → StackOf Value → State
with_stack state t stack = record { world = state.world; stacks = slice_set state.stacks t stack }
