-- Calls, returns, and questions of an object that are a thread's own (JVMS 6.5): they throw nothing, begin no class, and enter and
-- leave no monitor.
use Rattle.std.specs.Prelude.{◌≡◌, ℕ, nat_lt, List, [], ◌∷◌, Option, Some, None, Bool, true, false, ◌&&◌, ◌||◌, if◌then◌else◌, is_none, slice_get}
use Rattle.std.specs.Option.{option_map_or, option_and_then}
use Rattle.model.specs.declared.instr.Instr.{Instr}
use Rattle.model.specs.declared.instr.Instr.TheVariants as instr
use Rattle.model.specs.declared.value.Value.{Value}
use Rattle.model.specs.Accepted.{IsAccepted}
use Rattle.model.specs.Classes.{Program, Body, body_of}
use Rattle.model.specs.ClassInitialisation.{Look, IsReady, IsNew, IsHeld, HasFailed, look_at}
use Rattle.model.specs.Frames.{frame_count, at_offset, at_call}
use Rattle.model.specs.Meanings.{meaning_of}
use Rattle.model.specs.Operands.{values, under}
use Rattle.model.specs.Outcomes.{OutcomeOf, Goes, Raises, Throws, Interrupts, Calls, Returns, Waits}
use Rattle.model.specs.Sites.{MeaningOf, Site, site_at}
use Rattle.model.specs.State.{Frame, Invocation, Initialisation, StackOf, World, State}
use Rattle.model.specs.Step.{ops_of, returned}
use Rattle.model.specs.WellTyped.{IsWellTyped}
use Rattle.model.specs.Worlds.{thread_at}
use Rattle.run_laws.specs.interleavings.Local.{is_going}
use Rattle.search_laws.specs.Alone.{next_event}
use Rattle.search_laws.specs.OwnEvents.{IsOwnEvent}
use Rattle.search_laws.specs.Writes.{Variables, does_stay, read_by}

-- they ask for what stays: of which type an object is, and how many elements an array has
abbrev pub is_query : Instr → Bool
is_query (instr.CheckCast index) = true
is_query (instr.InstanceOf index) = true
is_query instr.ArrayLength = true
is_query other = false

-- or for variables that nothing writes meanwhile
abbrev pub asks_by : (Variables → Bool) → Program → Site → Instr → Bool
asks_by writes files site i = is_query i || option_map_or (does_stay writes) (read_by files site i) false

abbrev pub asks : (Variables → Bool) → Program → Site → Bool
asks writes files site = asks_by writes files site site.instr

-- the stack of a thread that goes on
abbrev pub if_left : StackOf Value → Option (StackOf Value)
if_left [] = None
if_left (entry ∷ stack) = Some (entry ∷ stack)

-- The stack after a question that throws nothing, a call of a method that is not synchronized, where the limit lets it, or the return from one.
abbrev pub own_outcome : Program → ℕ → Frame → StackOf Value → Bool → OutcomeOf Value → Option (StackOf Value)
own_outcome files frames frame stack query (Goes cost world slots to) = if query then Some (Invocation (at_offset frame to slots) ∷ stack) else None
own_outcome files frames frame stack query (Calls callee rest) =
    if nat_lt (frame_count (Invocation frame ∷ stack)) frames && is_none callee.entered
    then Some (Invocation callee ∷ Invocation (at_call frame rest) ∷ stack)
    else None
own_outcome files frames frame stack query (Returns world results) = if is_none frame.entered then if_left (returned files results stack) else None
own_outcome files frames frame stack query (Raises fault) = None
own_outcome files frames frame stack query (Throws exception) = None
own_outcome files frames frame stack query Interrupts = None
own_outcome files frames frame stack query (Waits cost world rest) = None

abbrev pub is_ready : Look → Bool
is_ready IsReady = true
is_ready IsNew = false
is_ready IsHeld = false
is_ready HasFailed = false

-- where no class comes first, or one that the thread may use
abbrev pub own_meant : (Variables → Bool) → Program → ℕ → ℕ → World → Frame → StackOf Value → Site → MeaningOf Value → Option (StackOf Value)
own_meant writes files frames t world frame stack site meaning =
    if is_ready (look_at t world meaning.looks)
    then own_outcome files frames frame stack (asks writes files site)
    (meaning.does (next_event t) world frame.place.slots (ops_of values meaning frame.place.slots) (under meaning.wants frame.place.slots))
    else None

abbrev pub own_at : (Variables → Bool) → Program → ℕ → ℕ → World → Frame → StackOf Value → Site → Option (StackOf Value)
own_at writes files frames t world frame stack site = option_and_then (own_meant writes files frames t world frame stack site) (meaning_of values files site)

abbrev pub own_in : (Variables → Bool) → Program → ℕ → ℕ → World → Frame → StackOf Value → Body → Option (StackOf Value)
own_in writes files frames t world frame stack body = option_and_then (own_at writes files frames t world frame stack) (site_at frame.method body frame.place.offset)

abbrev pub own_stack : (Variables → Bool) → Program → ℕ → ℕ → World → StackOf Value → Option (StackOf Value)
own_stack writes files frames t world [] = None
own_stack writes files frames t world (Invocation frame ∷ stack) = option_and_then (own_in writes files frames t world frame stack) (body_of files frame.method)
own_stack writes files frames t world (Initialisation class phase ∷ stack) = None

-- the stack of the thread after its next event, if that is such a one
abbrev pub next_own : (Variables → Bool) → Program → ℕ → State → ℕ → Option (StackOf Value)
next_own writes files frames state t =
    if is_going (thread_at state.world t).status (thread_at state.world t).pending
    then option_and_then (own_stack writes files frames t state.world) (slice_get state.stacks t)
    else None

-- its event is its own
abbrev pub AreOwnStepsOwn : Type 0
AreOwnStepsOwn =
    (files : List (List ℕ)) (trees : Program) → IsAccepted files trees → (frames : ℕ) (state : State) → IsWellTyped trees state
    → (t : ℕ) (own : StackOf Value) (writes : Variables → Bool) → next_own writes trees frames state t ≡ Some own
    → IsOwnEvent trees frames writes state t own
