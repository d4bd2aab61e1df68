-- What the engine of traces answers and writes, by the bytes that its devices hold.
use Rattle.std.specs.Prelude.{◌≡◌, ◌⊎◌, ℕ, List, ◌++◌, Option, Bool}
use Rattle.model.specs.declared.event.Event.{Event}
use Rattle.model.specs.declared.limits.Limits.{Limits}
use Rattle.model.specs.declared.report.Report.{Report}
use Rattle.model.specs.declared.end.End.{End}
use Rattle.model.specs.Devices.{AppendsFront}
use Rattle.model.specs.Classes.{Program}
use Rattle.program_runs.specs.traced_runs.Traces.{IsTrace, WritesFront}
use Rattle.program_runs.specs.declared.traced_runs.window.Window.{Window}
use Rattle.engines.specs.Engines.{Reads, ReadsEach}
use Rattle.engines.specs.GivenPlaces.{told_status, told_text}
use Rattle.engines.specs.Opening.{IsKeptBy, IsOpened}
use Rattle.engines.specs.declared.fault.Fault.{Fault}
use Rattle.engines.specs.declared.fault.Fault.TheVariants as faults
use Rattle.engines.specs.declared.status.Status.{Status}
use Rattle.engines.specs.declared.recording.Conditions.{Conditions}

-- The schedule and the class files are such as they have to be. The program of the class files has these lines and this report under
-- the events within the limits; and this is their text, the lines first, and the status.
pub record IsTraced (schedule : List ℕ) (files : List (List ℕ)) (options : Conditions) (window : Window) (text : List ℕ)
    (status : Status) : Type 0 where
  pub trees : Program
  pub events : List Event
  pub limits : Limits
  pub gives_up : Bool
  pub opened : IsOpened schedule files options trees events limits gives_up
  pub lines : List ℕ
  pub report : Report
  pub end : End
  pub traced : IsTrace trees events limits window report end lines
  pub told : text ≡ lines ++ told_text gives_up report end
  pub ended : status ≡ told_status gives_up report end

-- the same of what these sources hold
abbrev pub Traces : Option (List ℕ) → List (Option (List ℕ)) → Conditions → Window → List ℕ → Status → Type 0
Traces left lefts options window text status = (schedule : List ℕ) × (files : List (List ℕ)) × Reads left schedule × ReadsEach lefts files × IsTraced schedule files options window text status

-- ---- before an error

-- the run stops, and a front of the lines of the events that were done is written
pub record IsUnended (schedule : List ℕ) (files : List (List ℕ)) (options : Conditions) (window : Window)
    (old new : Option (List ℕ)) : Type 0 where
  pub trees : Program
  pub events : List Event
  pub limits : Limits
  pub gives_up : Bool
  pub opened : IsOpened schedule files options trees events limits gives_up
  pub lines : WritesFront trees events limits window old new

-- or it has ended, and a front of its lines and its report is written
abbrev pub TracesFront : List ℕ → List (List ℕ) → Conditions → Window → (old new : Option (List ℕ)) → Type 0
TracesFront schedule files options window old new = IsUnended schedule files options window old new
    ⊎ ((text : List ℕ) × (status : Status) × IsTraced schedule files options window text status × AppendsFront old new text)

-- nothing is written, or such a front
abbrev pub TracesPart : Option (List ℕ) → List (Option (List ℕ)) → Conditions → Window → (old new : Option (List ℕ)) → Type 0
TracesPart left lefts options window old new = (new ≡ old)
    ⊎ ((schedule : List ℕ) × (files : List (List ℕ)) × Reads left schedule × ReadsEach lefts files
    × TracesFront schedule files options window old new)

-- When a fault is answered, and what is written then.
abbrev pub IsUntraced : Option (List ℕ) → List (Option (List ℕ)) → Conditions → Window → (old new : Option (List ℕ)) → Fault → Type 0
IsUntraced left lefts options window old new faults.Device = TracesPart left lefts options window old new
IsUntraced left lefts options window old new faults.Memory = TracesPart left lefts options window old new
IsUntraced left lefts options window old new fault = (new ≡ old) × IsKeptBy left lefts options fault
