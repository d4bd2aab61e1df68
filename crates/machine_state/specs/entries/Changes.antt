-- Events of monitors and threads, done to what a machine keeps of them, are done to the world that it shows (JLS 17.1, 17.2).
use Rattle.std.specs.Prelude.{◌≡◌, ℕ, List, Bool}
use Rattle.model.specs.Classes.{Program}
use Rattle.model.specs.State.{WorldOf}
use Rattle.model.specs.LimitStands.{Bounds}
use Rattle.linked_code.specs.declared.program.LinkedProgram.{LinkedProgram}
use Rattle.machine_state.specs.declared.state.Shared.{Shared}
use Rattle.machine_state.specs.Shown.{Represents}
use Rattle.heap.specs.monitor_events.Tables.{MonitorsBecome, ThreadsBecome, BothBecome}

-- of monitors
abbrev pub AreMonitorsShown : Type 0
AreMonitorsShown =
    (trees : Program) (p : LinkedProgram) (bounds : Bounds) (world : WorldOf ℕ) (old new : Shared) → Represents trees p bounds old world
    → (event : WorldOf ℕ → WorldOf ℕ) (fat : List Bool) → MonitorsBecome event fat old.heap new.heap → new ≡ record old { heap = new.heap }
    → Represents trees p bounds new (event world)

-- of threads
abbrev pub AreThreadsShown : Type 0
AreThreadsShown =
    (trees : Program) (p : LinkedProgram) (bounds : Bounds) (world : WorldOf ℕ) (old new : Shared) → Represents trees p bounds old world
    → (event : WorldOf ℕ → WorldOf ℕ) → ThreadsBecome event old.threads new.threads → new ≡ record old { threads = new.threads }
    → Represents trees p bounds new (event world)

-- of both
abbrev pub AreBothShown : Type 0
AreBothShown =
    (trees : Program) (p : LinkedProgram) (bounds : Bounds) (world : WorldOf ℕ) (old new : Shared) → Represents trees p bounds old world
    → (event : WorldOf ℕ → WorldOf ℕ) (fat : List Bool) → BothBecome event fat old.heap new.heap old.threads new.threads
    → new ≡ record old { heap = new.heap; threads = new.threads }
    → Represents trees p bounds new (event world)
