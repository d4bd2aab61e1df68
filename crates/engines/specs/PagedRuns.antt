-- What the engine of pages answers, writes and makes, by the bytes that its devices hold.
use Rattle.std.specs.Prelude.{◌≡◌, ◌⊎◌, ◌<◌, ◌≤◌, ℕ, List, length, Option, Bool, true}
use Rattle.model.specs.declared.end.End.{End}
use Rattle.model.specs.declared.event.Event.{Event}
use Rattle.model.specs.declared.limits.Limits.{Limits}
use Rattle.model.specs.declared.report.Report.{Report}
use Rattle.model.specs.Classes.{Program}
use Rattle.model.specs.Devices.{AppendsFront}
use Rattle.pages.specs.Pages.{IsPage}
use Rattle.program_runs.specs.traced_runs.Traces.{IsTrace}
use Rattle.program_runs.specs.declared.traced_runs.window.Window.{Window}
use Rattle.engines.specs.Engines.{Reads, ReadsEach}
use Rattle.engines.specs.GivenPlaces.{told_status, told_text}
use Rattle.engines.specs.Opening.{IsKeptBy, IsOpened}
use Rattle.engines.specs.declared.fault.Fault.{Fault}
use Rattle.engines.specs.declared.fault.Fault.TheVariants as faults
use Rattle.engines.specs.declared.recording.Conditions.{Conditions}
use Rattle.engines.specs.declared.status.Status.{Status}

-- a trace of this window is long
pub record IsLong (trees : Program) (events : List Event) (limits : Limits) (window : Window) : Type 0 where
  pub report : Report
  pub end : End
  pub lines : List ℕ
  pub traced : IsTrace trees events limits window report end lines
  pub long : 900000 < length lines

-- the trace of this window; where it is long, one of the same window with runs of local events folded
abbrev pub TracesAs : Program → List Event → Limits → Window → Report → End → (lines : List ℕ) → Type 0
TracesAs trees events limits window report end lines = (IsTrace trees events limits window report end lines × (length lines ≤ 900000))
    ⊎ (IsLong trees events limits window × IsTrace trees events limits (record window { summary = true }) report end lines)

-- The schedule and the class files are such as they have to be. The program of the class files has this report under the events within
-- the limits, and that is the text; and this is the page of the lines and the report.
pub record IsPaged (schedule : List ℕ) (files : List (List ℕ)) (options : Conditions) (window : Window) (text page : List ℕ)
    (status : Status) : Type 0 where
  pub trees : Program
  pub events : List Event
  pub limits : Limits
  pub gives_up : Bool
  pub opened : IsOpened schedule files options trees events limits gives_up
  pub report : Report
  pub end : End
  pub lines : List ℕ
  pub traced : TracesAs trees events limits window report end lines
  pub told : text ≡ told_text gives_up report end
  pub page_is : IsPage lines text page
  pub ended : status ≡ told_status gives_up report end

-- the same of what these sources hold
abbrev pub Pages : Option (List ℕ) → List (Option (List ℕ)) → Conditions → Window → (text page : List ℕ) → Status → Type 0
Pages left lefts options window text page status =
    (schedule : List ℕ) × (files : List (List ℕ)) × Reads left schedule × ReadsEach lefts files × IsPaged schedule files options window text page status

-- ---- before an error

-- nothing is written, or a front of such a report
abbrev pub PagesFront : List ℕ → List (List ℕ) → Conditions → Window → (old new : Option (List ℕ)) → Type 0
PagesFront schedule files options window old new =
    (new ≡ old) ⊎ ((text page : List ℕ) × (status : Status) × IsPaged schedule files options window text page status × AppendsFront old new text)

abbrev pub PagesPart : Option (List ℕ) → List (Option (List ℕ)) → Conditions → Window → (old new : Option (List ℕ)) → Type 0
PagesPart left lefts options window old new = (new ≡ old)
    ⊎ ((schedule : List ℕ) × (files : List (List ℕ)) × Reads left schedule × ReadsEach lefts files
    × PagesFront schedule files options window old new)

-- When a fault is answered, and what is written then.
abbrev pub IsUnpaged : Option (List ℕ) → List (Option (List ℕ)) → Conditions → Window → (old new : Option (List ℕ)) → Fault → Type 0
IsUnpaged left lefts options window old new faults.Device = PagesPart left lefts options window old new
IsUnpaged left lefts options window old new faults.Memory = PagesPart left lefts options window old new
IsUnpaged left lefts options window old new fault = (new ≡ old) × IsKeptBy left lefts options fault
