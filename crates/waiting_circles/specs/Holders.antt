-- Who holds what an event needs (JLS 17.1; JVMS 5.5).
use Rattle.std.specs.Prelude.{◌≡◌, ℕ, Option, Some, None, IsTrue}
use Rattle.model.specs.Names.{Name}
use Rattle.model.specs.Classes.{Program}
use Rattle.model.specs.ClassInitialisation.{status_of}
use Rattle.model.specs.LimitStands.{Bounds}
use Rattle.model.specs.State.{ClassStatus, NotInitialised, InProgress, Initialised, Erroneous, WorldOf}
use Rattle.model.specs.Worlds.{is_owner}
use Rattle.search_laws.specs.Waits.{Need, MonitorOf, ClassOf}
use Rattle.linked_code.specs.declared.program.LinkedProgram.{LinkedProgram}
use Rattle.linked_code.specs.Numbers.{IsClassAt}
use Rattle.machine_state.specs.declared.state.Shared.{Shared}
use Rattle.machine_state.specs.Shown.{IsProgram, Represents}
use Rattle.waiting_circles.specs.declared.needs.kinds.Need.{Need as TheNeed}
use Rattle.waiting_circles.specs.Needs.{IsNeed}

-- the thread holds it, by the words of a world
abbrev pub Holds : WorldOf ℕ → (u : ℕ) → Need → Type 0
Holds world u (MonitorOf object) = IsTrue (is_owner world u object)
Holds world u (ClassOf class) = status_of world class ≡ InProgress u

-- it is held by this thread alone, or by none
pub record IsHeldOnlyBy (world : WorldOf ℕ) (need : Need) (result : Option ℕ) : Type 0 where
  pub holds : (u : ℕ) → result ≡ Some u → Holds world u need
  pub only : (u : ℕ) → Holds world u need → result ≡ Some u

-- who initialises a class of a status
abbrev pub initiator_in : ClassStatus → Option ℕ
initiator_in NotInitialised = None
initiator_in (InProgress by) = Some by
initiator_in Initialised = None
initiator_in Erroneous = None

-- in whatever world is shown
abbrev pub IsInitiator : Shared → (number : ℕ) → Option ℕ → Type 0
IsInitiator shared number result =
    (trees : Program) (p : LinkedProgram) (bounds : Bounds) (world : WorldOf ℕ) → IsProgram trees p → Represents trees p bounds shared world
    → (class : Name) → IsClassAt trees number class → result ≡ initiator_in (status_of world class)

abbrev pub IsHolder : Shared → TheNeed → Option ℕ → Type 0
IsHolder shared need result =
    (trees : Program) (p : LinkedProgram) (bounds : Bounds) (world : WorldOf ℕ) → IsProgram trees p → Represents trees p bounds shared world
    → (is : Need) → IsNeed trees (Some need) (Some is) → IsHeldOnlyBy world is result
