-- What the engine of runs answers and writes, by the bytes that its devices hold. Where a device says nothing of its bytes,
-- they are any that it may have handed over.
use Rattle.std.specs.Prelude.{◌≡◌, ◌⊎◌, ◌++◌, ℕ, Bool, true, false, List, [], length, Option, IfSome, unwrap_or}
use Rattle.model.specs.declared.event.Event.{Event}
use Rattle.model.specs.declared.limits.Limits.{Limits}
use Rattle.model.specs.declared.report.Report.{Report}
use Rattle.model.specs.declared.end.End.{End}
use Rattle.model.specs.Devices.{AppendsFront}
use Rattle.model.specs.Classes.{Program}
use Rattle.model.specs.Accepted.{IsAccepted}
use Rattle.schedule.specs.Joined.{RecordedFile}
use Rattle.program_runs.specs.worlds.Worlds.{IsSpent}
use Rattle.recorded_races.specs.record_races.Told.{AreRacesTold}
use Rattle.command_line.specs.Choices.{AreChosen}
use Rattle.command_line.specs.declared.options.LimitOptions.{LimitOptions}
use Rattle.command_line.specs.declared.run_options.RunOptions.{RunOptions}
use Rattle.engines.specs.Engines.{ReadsEach}
use Rattle.engines.specs.Policies.{IsRunFor}
use Rattle.engines.specs.RecordForms.{recorded_as}
use Rattle.engines.specs.Refusals.{IsRefused}
use Rattle.engines.specs.Statuses.{status_of}
use Rattle.engines.specs.Stopped.{run_text}
use Rattle.engines.specs.Theorem.{IsRecordOf, raced_status}
use Rattle.engines.specs.Verifications.{IsUnread}
use Rattle.engines.specs.declared.fault.Fault.{Fault}
use Rattle.engines.specs.declared.fault.Fault.TheVariants as faults
use Rattle.engines.specs.declared.recording.RecordForm.{RecordForm}
use Rattle.engines.specs.declared.status.Status.{Status}

-- ---- what is written

-- what stands before a report, and whether there is a race: where it is asked for, of the races of these events a line for each, and else nothing
abbrev pub IsToldBefore : (races : Bool) → Program → (frames : ℕ) → List Event → (lines : List ℕ) → (has_race : Bool) → Type 0
IsToldBefore true trees frames events lines has_race = AreRacesTold trees frames events lines has_race
IsToldBefore false trees frames events lines has_race = (lines ≡ []) × (has_race ≡ false)

-- The class files are accepted. Workers, or one by the policy that is asked for, have run their program within the limits and the budget, or, where
-- they may be stopped, what was spent of it; and this is the text of their report, behind what is told of the races, and the status. The bytes of a file spell the events that were
-- done, in as few entries as they can have, the limits, and the lengths and checksums of the class files, of which the first so many are given, and a
-- library adds the others, as far as a file of the version that is asked for tells them.
pub record IsRun (form : RecordForm) (files : List (List ℕ)) (asked : LimitOptions) (options : RunOptions) (may_stop races : Bool) (text : List ℕ) (file : Option (List ℕ))
    (status : Status) : Type 0 where
  pub trees : Program
  pub accepted : IsAccepted files trees
  pub limits : Limits
  pub chosen : AreChosen asked limits
  pub events : List Event
  pub report : Report
  pub end : End
  pub spent : ℕ
  pub of_budget : IsSpent may_stop (unwrap_or options.budget 4294967295) spent
  pub recorded : IsRecordOf trees limits spent events report end
  pub as_asked : IsRunFor options.workers options may_stop trees limits (unwrap_or options.budget 4294967295) events end
  pub lines : List ℕ
  pub has_race : Bool
  pub raced : IsToldBefore races trees limits.frames events lines has_race
  pub told : text ≡ lines ++ run_text (unwrap_or options.budget 4294967295) report end
  pub ended : status ≡ raced_status (status_of report.threads.items end) has_race
  pub spelled : IfSome file (λ bytes. RecordedFile bytes (recorded_as limits form files) events)

-- the same of what these sources hold
abbrev pub Runs : (form : RecordForm) → List (Option (List ℕ)) → LimitOptions → RunOptions → (may_stop races : Bool) → List ℕ → Option (List ℕ) → Status → Type 0
Runs form lefts asked options may_stop races text file status = (files : List (List ℕ)) × ReadsEach lefts files × IsRun form files asked options may_stop races text file status

-- ---- what is written where there is a fault

-- nothing is written, and no file made; or the file is made, and a front of the text is written
abbrev pub RunsPart : (form : RecordForm) → List (Option (List ℕ)) → LimitOptions → RunOptions → (may_stop races : Bool) → (old new : Option (List ℕ))
    → (kept made : Option (List ℕ)) → Type 0
RunsPart form lefts asked options may_stop races old new kept made = ((new ≡ old) × (made ≡ kept))
    ⊎ ((text : List ℕ) × (status : Status) × Runs form lefts asked options may_stop races text made status × AppendsFront old new text)

-- When a fault is answered, and what is written then.
abbrev pub IsUnrun : (form : RecordForm) → List (Option (List ℕ)) → LimitOptions → RunOptions → (may_stop races : Bool) → (old new : Option (List ℕ))
    → (kept made : Option (List ℕ)) → Fault → Type 0
IsUnrun form lefts asked options may_stop races old new kept made faults.Device = RunsPart form lefts asked options may_stop races old new kept made
IsUnrun form lefts asked options may_stop races old new kept made faults.Memory = RunsPart form lefts asked options may_stop races old new kept made
-- memory for the reading aside, the class files are refused
IsUnrun form lefts asked options may_stop races old new kept made (faults.Refusal refusal) = (new ≡ old) × (made ≡ kept) × (IsUnread (length lefts) refusal
    ⊎ ((files : List (List ℕ)) × ReadsEach lefts files × IsRefused files refusal))
IsUnrun form lefts asked options may_stop races old new kept made (faults.Schedule fault) = ⊥
IsUnrun form lefts asked options may_stop races old new kept made (faults.Text fault) = ⊥
IsUnrun form lefts asked options may_stop races old new kept made (faults.Place missing) = ⊥
