-- Threads that go on in turn (own).
use Rattle.std.specs.Prelude.{◌≡◌, ◌++◌, ◌+◌, ◌^◌, ◌%◌, ℕ, List, [], ◌∷◌, Some}
use Rattle.model.specs.declared.end.End.{End}
use Rattle.model.specs.declared.event.Event.{Event}
use Rattle.model.specs.Classes.{Program}
use Rattle.model.specs.Run.{run}
use Rattle.model.specs.State.{State}
use Rattle.program_runs.specs.worlds.Turns.{IsNext}
use Rattle.program_runs.specs.worlds.Worlds.{WorldOf, IsOfSame}

-- where the rotation goes on behind a thread: numbers have 16 bits
abbrev pub behind : ℕ → ℕ
behind t = (t + 1) % 2 ^ 16

-- After some events, each of these is of the first thread in rotation from a number that has an enabled one, and picks the first waiter;
-- the next one's rotation begins behind that thread.
abbrev pub AreInTurn : Program → (frames : ℕ) → (done : List Event) → (from : ℕ) → List Event → Type 0
AreInTurn trees frames done from [] = Unit {0}
AreInTurn trees frames done from (event ∷ events) =
    (event.pick ≡ 0)
    × ((state : State) → run trees frames done ≡ Some state → IsNext trees frames state from event.thread)
    × AreInTurn trees frames (done ++ event ∷ []) (behind event.thread) events

-- events in turn from thread 0 on, and then an end
pub record TakesTurns (old new : WorldOf) : Type 0 where
  pub same : IsOfSame old new
  pub more : List Event
  pub events : new.events ≡ old.events ++ more
  pub in_turn : AreInTurn old.trees old.machine.limits.frames old.events 0 more
  pub end : End
  pub is : new.end ≡ Some end
