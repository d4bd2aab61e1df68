-- What an event takes that the frames of its thread do not have already (own): only such an event may want memory (JVMS 2.5).
use Rattle.std.specs.Prelude.{ℕ, List, [], Bool, true, false, ◌||◌, ◌-◌, length, map, drop, nat_lt, slice_index, slice_index_or}
use Rattle.std.specs.Option.{option_map_or}
use Rattle.model.specs.declared.event.Event.{Event}
use Rattle.model.specs.Classes.{Program}
use Rattle.model.specs.LimitStands.{is_inflating_entry}
use Rattle.model.specs.Operands.{values}
use Rattle.model.specs.Outcomes.{Cost, Free, Makes, Fills, Starts, Enters, Joins}
use Rattle.model.specs.Run.{run}
use Rattle.model.specs.State.{StackEntryOf, Invocation, Initialisation, StackOf, WorldOf, StateOf}
use Rattle.model.specs.Step.{SteppedOf, NotEnabled, WrongKind, Next, PartOf, part, stepped}
use Rattle.thread_stacks.specs.Stacks as shown
use Rattle.thread_stacks.specs.Stacks.{ShownEntry}

-- an object, exceptions that the machine makes among them, or cells of one; a thread; the entry that makes a lock fat; a place in a wait set
abbrev pub takes_shared : Cost → Bool
takes_shared Free = false
takes_shared (Makes cells) = true
takes_shared (Fills cells) = true
takes_shared Starts = true
takes_shared (Enters object count) = is_inflating_entry count
takes_shared (Joins object) = true

-- ---- room on a stack

-- how many operands an entry has, and each of a stack, the top first; a class has none
abbrev pub operand_count : {A : Type 0} → StackEntryOf A → ℕ
operand_count (Invocation frame) = length frame.place.slots.stack
operand_count (Initialisation class phase) = 0

abbrev pub operand_counts : {A : Type 0} → StackOf A → List ℕ
operand_counts stack = map operand_count stack

-- the same of what is kept
abbrev pub shown_count : ShownEntry → ℕ
shown_count (shown.Invocation frame) = length frame.operands
shown_count (shown.Initialisation class phase) = 0

abbrev pub shown_counts : List ShownEntry → List ℕ
shown_counts stack = map shown_count stack

-- A frame, or a class that is to be initialised, has come onto the stack; or what is on top has more operands than it had before, as
-- where a constant is loaded, a value is returned to the invoker, or an exception is caught over no operand.
abbrev pub has_grown : (old new : List ℕ) → Bool
has_grown old new =
    nat_lt (length old) (length new) || nat_lt (slice_index (drop (length old - length new) old) 0) (slice_index new 0)

-- ---- an event

-- by the operands on the stack of its thread before it, and by its step: it takes something of what all threads share, its stack
-- has grown, or it has printed or interned a String
abbrev pub takes_memory : {A : Type 0} → WorldOf A → (counts : List ℕ) → Cost → PartOf A → Bool
takes_memory world counts cost next =
    takes_shared cost || (has_grown counts (operand_counts next.stack) || (nat_lt (length world.printed) (length next.world.printed)
    || nat_lt (length world.interned) (length next.world.interned)))

-- the same of whole states
abbrev pub stack_at : {A : Type 0} → StateOf A → ℕ → StackOf A
stack_at state t = slice_index_or state.stacks t []

abbrev pub takes_memory_at : {A : Type 0} → StateOf A → (t : ℕ) → Cost → StateOf A → Bool
takes_memory_at state t cost next = takes_memory state.world (operand_counts (stack_at state t)) cost (part next.world (stack_at next t))

abbrev pub takes_memory_by : {A : Type 0} → StateOf A → (t : ℕ) → SteppedOf (StateOf A) → Bool
takes_memory_by state t NotEnabled = false
takes_memory_by state t WrongKind = false
takes_memory_by state t (Next cost next) = takes_memory_at state t cost next

-- the event is enabled after these events, and takes memory
abbrev pub takes_memory_after : Program → (frames : ℕ) → List Event → Event → Bool
takes_memory_after files frames events event =
    option_map_or (λ state. takes_memory_by state event.thread (stepped values files frames state event)) (run files frames events) false
