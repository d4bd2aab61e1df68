-- When a limit forbids an event (own): the event is enabled, and what it takes would pass the limit.
use Rattle.std.specs.Prelude.{◌≡◌, ℕ, ◌+◌, ◌-◌, List, [], ◌∷◌, Option, Some, None, Bool, true, not, ◌&&◌, ◌==◌, if◌then◌else◌, nat_lt, nat_le, drop, length, sum_by, is_none}
use Rattle.std.specs.Option.{option_and_then}
use Rattle.std.specs.List.{list_any}
use Rattle.model.specs.declared.event.Event.{Event}
use Rattle.model.specs.declared.limits.Limits.{Limits}
use Rattle.model.specs.declared.end.RunCause.{RunCause}
use Rattle.model.specs.declared.end.RunCause.TheVariants as cause
use Rattle.model.specs.Classes.{Program}
use Rattle.model.specs.Operands.{values}
use Rattle.model.specs.State.{WorldOf, State}
use Rattle.model.specs.Opening.{opening}
pub use Rattle.model.specs.Opening.{opening_count}
use Rattle.model.specs.Outcomes.{Cost, Free, Makes, Fills, Starts, Enters, Joins}
use Rattle.model.specs.Worlds.{cells_of}
use Rattle.model.specs.Step.{SteppedOf, NotEnabled, WrongKind, Next, stepped}
use Rattle.model.specs.Run.{run}

-- the limits of a run, by their numbers
pub record Bounds : Type 0 where
  pub objects : ℕ
  pub cells : ℕ
  pub monitors : ℕ
  pub threads : ℕ
  pub frames : ℕ

abbrev pub bounds_of : Limits → Bounds
bounds_of limits =
    record { objects = limits.objects; cells = limits.cells; monitors = limits.monitors; threads = limits.threads; frames = limits.frames }

-- ---- what was made since the opening, exceptions that the machine made among it

abbrev pub objects_made : {A : Type 0} → Program → WorldOf A → ℕ
objects_made files world = length world.heap - opening_count files

abbrev pub cells_made : {A : Type 0} → Program → WorldOf A → ℕ
cells_made files world = sum_by cells_of (drop (opening_count files) world.heap)

-- ---- inflated monitors: those of objects on which a thread joined a wait set, or which have had 257 entries of one thread

-- the entry 257 is the one by an owner with 256
abbrev pub is_inflating_entry : ℕ → Bool
is_inflating_entry count = count == 256

abbrev pub with_inflated : ℕ → List ℕ → List ℕ
with_inflated object inflated = if list_any (λ o. o == object) inflated then inflated else object ∷ inflated

abbrev pub inflated_by : Cost → List ℕ → List ℕ
inflated_by Free inflated = inflated
inflated_by (Makes cells) inflated = inflated
inflated_by (Fills cells) inflated = inflated
inflated_by Starts inflated = inflated
inflated_by (Enters object count) inflated = if is_inflating_entry count then with_inflated object inflated else inflated
inflated_by (Joins object) inflated = with_inflated object inflated

-- what follows an event that has a step, and else what there was
abbrev pub if_next : {B : Type 0} → SteppedOf State → B → (Cost → State → B) → B
if_next NotEnabled b go = b
if_next WrongKind b go = b
if_next (Next cost next) b go = go cost next

-- the same over the events from a state
abbrev pub inflated_from : Program → ℕ → State → List Event → List ℕ → List ℕ
inflated_from files frames state [] inflated = inflated
inflated_from files frames state (event ∷ events) inflated =
    if_next (stepped values files frames state event) inflated (λ cost next. inflated_from files frames next events (inflated_by cost inflated))

-- the objects whose monitors the events inflated, each once
abbrev pub inflated : Program → ℕ → List Event → List ℕ
inflated files frames events = inflated_from files frames (opening values files) events []

-- one more cannot be inflated, and this one is not
abbrev pub is_crowded : ℕ → List ℕ → ℕ → Bool
is_crowded monitors inflated object = not (list_any (λ o. o == object) inflated) && nat_le monitors (length inflated)

-- ---- which limit an event would pass

abbrev pub cells_limit : Program → Bounds → State → ℕ → Option RunCause
cells_limit files bounds state cells = if nat_lt bounds.cells (cells_made files state.world + cells) then Some cause.Cells else None

-- of both, objects are answered
abbrev pub allocation_limit : Program → Bounds → State → ℕ → Option RunCause
allocation_limit files bounds state cells =
    if nat_le bounds.objects (objects_made files state.world) then Some cause.Objects else cells_limit files bounds state cells

-- an owner with so many entries enters once more
abbrev pub entry_limit : Bool → ℕ → Option RunCause
entry_limit crowded count =
    if count == 4294967295 then Some cause.LockCount
    else if is_inflating_entry count && crowded then Some cause.Monitors
    else None

-- by what an event takes, and whether an object's monitor is not inflated and cannot be
abbrev pub limit_of : Program → Bounds → (ℕ → Bool) → State → Cost → Option RunCause
limit_of files bounds crowded state Free = None
limit_of files bounds crowded state (Makes cells) = allocation_limit files bounds state cells
limit_of files bounds crowded state (Fills cells) = cells_limit files bounds state cells
limit_of files bounds crowded state Starts = if nat_le bounds.threads (length state.world.threads) then Some cause.Threads else None
limit_of files bounds crowded state (Enters object count) = entry_limit (crowded object) count
limit_of files bounds crowded state (Joins object) = if crowded object then Some cause.Monitors else None

abbrev pub limit_at : Program → Bounds → (ℕ → Bool) → State → SteppedOf State → Option RunCause
limit_at files bounds crowded state stepped = if_next stepped None (λ cost next. limit_of files bounds crowded state cost)

-- the limit that an event would pass after some events
abbrev pub limit_after : Program → Bounds → List Event → Event → Option RunCause
limit_after files bounds events event =
    option_and_then (λ state. limit_at files bounds (is_crowded bounds.monitors (inflated files bounds.frames events)) state (stepped values files bounds.frames state event))
    (run files bounds.frames events)

-- no limit stands at any of the events from a state, with these monitors inflated
abbrev pub within_limits_from : Program → Bounds → State → List Event → List ℕ → Bool
within_limits_from files bounds state [] inflated = true
within_limits_from files bounds state (event ∷ events) inflated =
    if_next (stepped values files bounds.frames state event) true
    (λ cost next. is_none (limit_of files bounds (is_crowded bounds.monitors inflated) state cost) && within_limits_from files bounds next events (inflated_by cost inflated))

-- at none of the events a limit stands
abbrev pub within_limits : Program → Bounds → List Event → Bool
within_limits files bounds events = within_limits_from files bounds (opening values files) events []

-- after the events, this limit stands at the event
abbrev pub LimitStands : Program → Limits → List Event → Event → RunCause → Type 0
LimitStands files limits events event cause = limit_after files (bounds_of limits) events event ≡ Some cause
