-- Events that are in no race, whatever the other threads do first.
use Rattle.std.specs.Prelude.{◌≡◌, ℕ, List, Some}
use Rattle.model.specs.Accepted.{IsAccepted}
use Rattle.model.specs.Classes.{Program}
use Rattle.model.specs.State.{State}
use Rattle.model.specs.Step.{step}
use Rattle.search_laws.specs.Alone.{next_event}
use Rattle.search_laws.specs.KeptStates.{IsReached}
use Rattle.search_laws.specs.Moves.{IsMove}
use Rattle.search_laws.specs.OwnEvents.{IsFreeOf}
use Rattle.search_laws.specs.Releases.{IsRelease}
use Rattle.search_laws.specs.Schedules.{AreLocalFree}
use Rattle.racing_threads.specs.Racing.{are_racing}

-- a local event
abbrev pub AreLocalEventsFree : Type 0
AreLocalEventsFree =
    (files : List (List ℕ)) (trees : Program) → IsAccepted files trees → (frames : ℕ) → AreLocalFree trees frames (are_racing trees frames)

-- a call or a return that enters and leaves no monitor
abbrev pub AreMovesFree : Type 0
AreMovesFree =
    (files : List (List ℕ)) (trees : Program) → IsAccepted files trees → (frames : ℕ) (state next : State) → IsReached trees frames state
    → (t : ℕ) → IsMove state t next → step trees frames state (next_event t) ≡ Some next → IsFreeOf trees frames (are_racing trees frames) state t

-- an event by which a thread leaves a monitor, and runs on
abbrev pub AreReleasesFree : Type 0
AreReleasesFree =
    (files : List (List ℕ)) (trees : Program) → IsAccepted files trees → (frames : ℕ) (state next : State) → IsReached trees frames state
    → (t r : ℕ) → IsRelease state t r next → step trees frames state (next_event t) ≡ Some next
    → IsFreeOf trees frames (are_racing trees frames) state t
