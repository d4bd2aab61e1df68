-- Why a search may give up (own).
use Rattle.std.specs.Prelude.{◌≡◌, ◌⊎◌, ◌≤◌, ℕ, List, [], ◌∷◌, ◌++◌, Some, IsTrue}
use Rattle.model.specs.declared.end.RunCause.{RunCause}
use Rattle.model.specs.declared.event.Event.{Event}
use Rattle.model.specs.declared.limits.Limits.{Limits}
use Rattle.model.specs.Classes.{Program}
use Rattle.model.specs.LimitStands.{bounds_of, limit_after}
use Rattle.model.specs.Run.{run}
use Rattle.model.specs.State.{State}
use Rattle.model.specs.Step.{is_enabled}

-- behind these events another one is enabled, and a limit forbids it
pub record IsLimited (trees : Program) (limits : Limits) (events : List Event) : Type 0 where
  pub state : State
  pub reached : run trees limits.frames events ≡ Some state
  pub event : Event
  pub enabled : IsTrue (is_enabled trees limits.frames state event)
  pub cause : RunCause
  pub stands : limit_after trees (bounds_of limits) events event ≡ Some cause

-- behind these events a thread may pick the last of 65,535 that wait
pub record HasManyWaiters (trees : Program) (frames : ℕ) (events : List Event) : Type 0 where
  pub thread : ℕ
  pub state : State
  pub reached : run trees frames (events ++ record { thread = thread; pick = 65534 } ∷ []) ≡ Some state

-- some run can't be gone on with
abbrev pub IsStopped : Program → Limits → Type 0
IsStopped trees limits = (events : List Event) × (IsLimited trees limits events ⊎ HasManyWaiters trees limits.frames events)

-- as many states were met as may be, or some run can't be gone on with
abbrev pub GivesUp : Program → Limits → (most states : ℕ) → Type 0
GivesUp trees limits most states = (most ≤ states) ⊎ IsStopped trees limits
