-- A machine that does events in the states that were met (own).
use Rattle.std.specs.Prelude.{ℕ, IsTrue}
use Rattle.model.specs.declared.event.Event.{Event}
use Rattle.search.specs.declared.states.Walk.{Walk}
use Rattle.search.specs.States.{StatesOf, IsInState, LeadsOnFrom}

-- the machine is in the state of this number; and where an event is said to lead on from there, one does
pub record IsThere (s : StatesOf) (number : ℕ) (walk : Walk) : Type 0 where
  pub is_in : IsInState s number walk.machine
  pub moved : IsTrue walk.moved → (event : Event) × LeadsOnFrom s number event
