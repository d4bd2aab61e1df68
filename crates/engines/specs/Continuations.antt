-- What the engine of replays that go on answers and writes, by the bytes that its devices hold.
use Rattle.std.specs.Prelude.{◌≡◌, ◌⊎◌, ◌<◌, ◌≤◌, ℕ, List, Option, Bool, true, IfSome, IsTrue, length, unwrap_or}
use Rattle.model.specs.declared.event.Event.{Event}
use Rattle.model.specs.declared.limits.Limits.{Limits}
use Rattle.model.specs.declared.report.Report.{Report}
use Rattle.model.specs.declared.end.End.{End}
use Rattle.model.specs.Classes.{Program}
use Rattle.model.specs.Devices.{AppendsFront}
use Rattle.model.specs.Schedule.{events_of}
use Rattle.schedule.specs.Joined.{RecordedFile}
use Rattle.engines.specs.GivenPlaces.{told_status, told_text}
use Rattle.program_runs.specs.continued_runs.Continuing.{GoesOn}
use Rattle.program_runs.specs.declared.continued_runs.run.Continued.{Continued}
use Rattle.program_runs.specs.declared.continued_runs.run.Continued.TheVariants.{Whole, Part}
use Rattle.command_line.specs.declared.options.ThenRun.{ThenRun}
use Rattle.engines.specs.Engines.{Reads, ReadsEach}
use Rattle.engines.specs.Opening.{IsKeptBy, IsOpened}
use Rattle.engines.specs.RecordForms.{record_form, recorded_as}
use Rattle.engines.specs.Statuses.{status_of}
use Rattle.engines.specs.Theorem.{IsReplay, text_of}
use Rattle.engines.specs.declared.fault.Fault.{Fault}
use Rattle.engines.specs.declared.fault.Fault.TheVariants as faults
use Rattle.engines.specs.declared.status.Status.{Status}
use Rattle.engines.specs.declared.recording.Conditions.{Conditions}

-- what it comes to: the report, how it ended, and the whole schedule, which is that of the replay where it went no further
abbrev pub ComesTo : Continued → (schedule : List Event) → Report → End → (whole : List Event) → Type 0
ComesTo (Whole run) schedule report end whole = (report ≡ run.report) × (end ≡ run.end) × (whole ≡ events_of run.schedule)
ComesTo (Part told stop) schedule report end whole = (report ≡ told) × (end ≡ stop) × (whole ≡ schedule)

-- how many events there may be, those of the schedule included
abbrev pub whole_budget : ThenRun → ℕ
whole_budget then_run = unwrap_or then_run.budget 10000000

-- The schedule and the class files are such as they have to be. The program of the class files has gone on behind the events, within the
-- limits and the budget; this is the text of the report, and its status. The bytes of a file spell the whole schedule, in as few
-- entries as its events can have, the limits, and the lengths and checksums of the class files, as far as a file of the version that is
-- asked for tells them.
pub record IsContinued (schedule : List ℕ) (files : List (List ℕ)) (options : Conditions) (then_run : ThenRun) (text : List ℕ)
    (file : Option (List ℕ)) (status : Status) : Type 0 where
  pub trees : Program
  pub events : List Event
  pub limits : Limits
  pub gives_up : Bool
  pub opened : IsOpened schedule files options trees events limits gives_up
  pub continued : Continued
  pub goes_on : GoesOn trees events limits (whole_budget then_run) continued
  pub report : Report
  pub end : End
  pub whole : List Event
  pub comes_to : ComesTo continued events report end whole
  pub told : text ≡ text_of report end
  pub ended : status ≡ status_of report.threads.items end
  pub goes_past : IsTrue gives_up → whole_budget then_run < length events
  pub spelled : IfSome file (λ bytes. RecordedFile bytes (recorded_as limits (record_form options.given then_run.as_version) files) whole)

-- The schedule gives up at a place before the budget ends the run: the report is that of a replay of its events, and says so. They are
-- what a file is of.
pub record IsGivenUp (schedule : List ℕ) (files : List (List ℕ)) (options : Conditions) (then_run : ThenRun) (text : List ℕ)
    (file : Option (List ℕ)) (status : Status) : Type 0 where
  pub trees : Program
  pub events : List Event
  pub limits : Limits
  pub opened : IsOpened schedule files options trees events limits true
  pub few : length events ≤ whole_budget then_run
  pub report : Report
  pub end : End
  pub replayed : IsReplay trees events limits report end
  pub told : text ≡ told_text true report end
  pub ended : status ≡ told_status true report end
  pub spelled : IfSome file (λ bytes. RecordedFile bytes (recorded_as limits (record_form options.given then_run.as_version) files) events)

-- it goes on behind the schedule, or gives up at a place of it
abbrev pub ContinuesBy : List ℕ → List (List ℕ) → Conditions → ThenRun → List ℕ → Option (List ℕ) → Status → Type 0
ContinuesBy schedule files options then_run text file status =
    IsContinued schedule files options then_run text file status ⊎ IsGivenUp schedule files options then_run text file status

-- the same of what these sources hold
abbrev pub Continues : Option (List ℕ) → List (Option (List ℕ)) → Conditions → ThenRun → List ℕ → Option (List ℕ) → Status → Type 0
Continues left lefts options then_run text file status =
    (schedule : List ℕ) × (files : List (List ℕ)) × Reads left schedule × ReadsEach lefts files × ContinuesBy schedule files options then_run text file status

-- nothing is written, and no file made; or the file is made, and a front of the text is written
abbrev pub ContinuesPart : Option (List ℕ) → List (Option (List ℕ)) → Conditions → ThenRun → (old new : Option (List ℕ))
    → (kept made : Option (List ℕ)) → Type 0
ContinuesPart left lefts options then_run old new kept made = ((new ≡ old) × (made ≡ kept))
    ⊎ ((text : List ℕ) × (status : Status) × Continues left lefts options then_run text made status × AppendsFront old new text)

-- When a fault is answered, and what is written then.
abbrev pub IsUncontinued : Option (List ℕ) → List (Option (List ℕ)) → Conditions → ThenRun → (old new : Option (List ℕ))
    → (kept made : Option (List ℕ)) → Fault → Type 0
IsUncontinued left lefts options then_run old new kept made faults.Device = ContinuesPart left lefts options then_run old new kept made
IsUncontinued left lefts options then_run old new kept made faults.Memory = ContinuesPart left lefts options then_run old new kept made
IsUncontinued left lefts options then_run old new kept made fault = (new ≡ old) × (made ≡ kept) × IsKeptBy left lefts options fault
