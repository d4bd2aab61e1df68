-- Events that are alone behind a run (own; JLS 17).
use Rattle.std.specs.Prelude.{◌≡◌, ℕ, List, ◌++◌, Some}
use Rattle.model.specs.declared.event.Event.{Event}
use Rattle.model.specs.Classes.{Program}
use Rattle.model.specs.Run.{run}
use Rattle.model.specs.State.{State}
use Rattle.search_laws.specs.Schedules.{ArePassed}
use Rattle.racing_threads.specs.Racing.{are_racing}

-- further events lead on from where the first ones led, and each of them is alone, and in no race
pub record LeadsPast (trees : Program) (frames : ℕ) (events more : List Event) (state : State) : Type 0 where
  pub threads : List ℕ
  pub last : State
  pub are_alone : ArePassed trees frames (are_racing trees frames) threads state last
  pub reached : run trees frames (events ++ more) ≡ Some last

abbrev pub AreAloneAfter : Program → (frames : ℕ) → (events more : List Event) → Type 0
AreAloneAfter trees frames events more = (state : State) → run trees frames events ≡ Some state → LeadsPast trees frames events more state
