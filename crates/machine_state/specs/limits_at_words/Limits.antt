-- When a limit forbids an event (own), asked of words: the text of `LimitStands` over any carrier, and that it is the same there.
use Rattle.std.specs.Prelude.{◌≡◌, ℕ, ◌+◌, List, Option, Some, None, Bool, if◌then◌else◌, nat_lt, nat_le, length}
use Rattle.model.specs.declared.event.Event.{Event}
use Rattle.model.specs.declared.end.RunCause.{RunCause}
use Rattle.model.specs.declared.end.RunCause.TheVariants as cause
use Rattle.model.specs.Classes.{Program}
use Rattle.model.specs.Operands.{words, values}
use Rattle.model.specs.State.{WorldOf, StateOf, State}
use Rattle.model.specs.Opening.{opening_heap}
use Rattle.model.specs.Outcomes.{Cost, Free, Makes, Fills, Starts, Enters, Joins}
use Rattle.model.specs.Step.{SteppedOf, NotEnabled, WrongKind, Next, stepped}
use Rattle.model.specs.Run.{run}
use Rattle.model.specs.LimitStands.{Bounds, opening_count, objects_made, cells_made, entry_limit, is_crowded, inflated, limit_at, limit_after}
use Rattle.model.specs.Linkable.{IsLinkable}
use Rattle.model.specs.Words.{words_of, AreWordsOf}
use Rattle.run_laws.specs.word_runs.Words.{map_stepped}
use Rattle.run_laws.specs.monitor_counts.Counts.{IsLonger}

-- ---- the limit that an event would pass, by the world before it

abbrev pub cells_limit_in : {A : Type 0} → Program → Bounds → WorldOf A → ℕ → Option RunCause
cells_limit_in files bounds world cells = if nat_lt bounds.cells (cells_made files world + cells) then Some cause.Cells else None

-- of both, objects are answered
abbrev pub allocation_limit_in : {A : Type 0} → Program → Bounds → WorldOf A → ℕ → Option RunCause
allocation_limit_in files bounds world cells =
    if nat_le bounds.objects (objects_made files world) then Some cause.Objects else cells_limit_in files bounds world cells

-- by what the event takes, and whether an object's monitor is not inflated and cannot be
abbrev pub limit_in : {A : Type 0} → Program → Bounds → (ℕ → Bool) → WorldOf A → Cost → Option RunCause
limit_in files bounds crowded world Free = None
limit_in files bounds crowded world (Makes cells) = allocation_limit_in files bounds world cells
limit_in files bounds crowded world (Fills cells) = cells_limit_in files bounds world cells
limit_in files bounds crowded world Starts = if nat_le bounds.threads (length world.threads) then Some cause.Threads else None
limit_in files bounds crowded world (Enters object count) = entry_limit (crowded object) count
limit_in files bounds crowded world (Joins object) = if crowded object then Some cause.Monitors else None

-- by what becomes of the event
abbrev pub limit_by : {A : Type 0} → Program → Bounds → (ℕ → Bool) → StateOf A → SteppedOf (StateOf A) → Option RunCause
limit_by files bounds crowded state NotEnabled = None
limit_by files bounds crowded state WrongKind = None
limit_by files bounds crowded state (Next cost next) = limit_in files bounds crowded state.world cost

-- ---- the statements

-- over values it is the limit of the definitions, and over their words too
pub record AreLimitsSame : Type 0 where
  pub of_values : (files : Program) (bounds : Bounds) (crowded : ℕ → Bool) (state : State) (x : SteppedOf State)
      → limit_by files bounds crowded state x ≡ limit_at files bounds crowded state x
  pub of_words : (files : Program) (bounds : Bounds) (crowded : ℕ → Bool) (state : State) (x : SteppedOf State)
      → limit_by files bounds crowded (words_of state) (map_stepped words_of x) ≡ limit_at files bounds crowded state x
  -- there are as many objects at the opening
  pub opened : (files : Program) → length (opening_heap words files) ≡ opening_count files

-- at words of a well-typed state of files that link, the limit at an event is the one at the state
abbrev pub AreLimitsCarried : Type 0
AreLimitsCarried =
    (files : List (List ℕ)) (trees : Program) → IsLinkable files trees → (bounds : Bounds) (crowded : ℕ → Bool) (frames : ℕ) (at : StateOf ℕ) (state : State) (event : Event)
    → AreWordsOf trees at state
    → limit_by trees bounds crowded at (stepped words trees frames at event)
    ≡ limit_at trees bounds crowded state (stepped values trees frames state event)

-- so after the events of a run that leads to the state, with the monitors inflated that they inflated
abbrev pub AreLimitsStanding : Type 0
AreLimitsStanding =
    (files : List (List ℕ)) (trees : Program) → IsLinkable files trees → (bounds : Bounds) (events : List Event) (at : StateOf ℕ) (state : State) (event : Event)
    → run trees bounds.frames events ≡ Some state → AreWordsOf trees at state
    → limit_by trees bounds (is_crowded bounds.monitors (inflated trees bounds.frames events))
    at (stepped words trees bounds.frames at event) ≡ limit_after trees bounds events event

-- one more event at words of the state of a run leads to words of the next state, and the run goes on with what it takes
pub record GoesOn (trees : Program) (frames : ℕ) (events : List Event) (event : Event) (cost : Cost) (next : StateOf ℕ) : Type 0 where
  pub state : State
  pub longer : IsLonger trees frames events event cost state
  pub are : next ≡ words_of state

abbrev pub AreRunsLongerAtWords : Type 0
AreRunsLongerAtWords =
    (files : List (List ℕ)) (trees : Program) → IsLinkable files trees → (frames : ℕ) (events : List Event) (at : StateOf ℕ) (state : State) (event : Event) (cost : Cost) (next : StateOf ℕ)
    → run trees frames events ≡ Some state → AreWordsOf trees at state → stepped words trees frames at event ≡ Next cost next
    → GoesOn trees frames events event cost next
