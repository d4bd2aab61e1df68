-- Why class files are not searched, and how far what a search says is written.
use Rattle.std.proofs.Common.{◌≡◌, ℕ, ◌<◌, Bool, List, length, Option, Some, None, inl, refl, sym, subst, ◌∙◌}
use Rattle.std.specs.Prelude.{IfOk, IfSome, IsTrue, Result, Ok, Err, codes, is_some}
use Rattle.std.proofs.lemmas.Bool.{true≢false}
use Rattle.std.specs.Option.{option_map}
use Rattle.model.specs.declared.device.DeviceFault.{DeviceFault}
use Rattle.model.specs.declared.device.DeviceFault.TheVariants as devices
use Rattle.model.specs.declared.end.End.{End}
use Rattle.model.specs.declared.event.Event.{Event}
use Rattle.model.specs.declared.event.ScheduleEntry.{ScheduleEntry}
use Rattle.model.specs.declared.limits.Limits.{Limits}
use Rattle.model.specs.declared.report.Report.{Report}
use Rattle.model.specs.Classes.{Program}
use Rattle.model.specs.Report.{line}
use Rattle.model.specs.Schedule.{events_of}
use Rattle.run_laws.specs.interleavings.Ends.{Outcome}
use Rattle.schedule.specs.Files.{Recording}
use Rattle.schedule.specs.Joined.{RecordedFile}
use Rattle.command_line.specs.declared.options.LimitOptions.{LimitOptions}
use Rattle.search.specs.declared.kinds.Goal.{Goal}
use Rattle.search.specs.declared.kinds.Kinds.{Kinds}
use Rattle.search.specs.declared.search_reports.answers.Answer.{Answer}
use Rattle.search.specs.declared.search_reports.answers.Answer.TheVariants as answers
use Rattle.search.specs.RacyStates.{IsRaceShown}
use Rattle.state_races.specs.reached_races.Reached.{IsReachedRaceLine, LeadsToRace}
use Rattle.engines.specs.Devices.{fault_of}
use Rattle.engines.specs.Engines.{IsOfFile}
use Rattle.engines.specs.Searches.{IsFileOf, IsRaceReached, IsUnsearched, SearchesPart, TellsRace}
use Rattle.engines.specs.declared.fault.Fault.{Fault}
use Rattle.engines.specs.declared.fault.Fault.TheVariants as faults
use Rattle.engines.specs.declared.recording.RecordForm.{RecordForm}

module _ (form : RecordForm) (lefts : List (Option (List ℕ))) (asked : LimitOptions) (goal : Goal) (may_stop : Bool) (most : ℕ) (recorded : Bool) where
  -- a class file isn't read, and nothing is written
  pub unread_is_unsearched : (fault : Fault) (held : Option (List ℕ)) (kept : Option (List ℕ)) (file : ℕ) → file < length lefts → IsOfFile file fault
      → IsUnsearched form lefts asked goal may_stop most recorded held held kept kept fault
  unread_is_unsearched faults.Device held kept file within of_file = inl (refl, refl)
  unread_is_unsearched faults.Memory held kept file within of_file = absurd of_file
  unread_is_unsearched (faults.Schedule fault) held kept file within of_file = absurd of_file
  unread_is_unsearched (faults.Text fault) held kept file within of_file = absurd of_file
  unread_is_unsearched (faults.Place missing) held kept file within of_file = absurd of_file
  unread_is_unsearched (faults.Refusal refusal) held kept file within of_file = (refl, refl, inl (file, within, of_file))

  -- the writing stops
  pub part_is_unsearched : (fault : DeviceFault) (old new : Option (List ℕ)) (kept made : Option (List ℕ))
      → SearchesPart form lefts asked goal may_stop most recorded old new kept made → IsUnsearched form lefts asked goal may_stop most recorded old new kept made (fault_of fault)
  part_is_unsearched devices.Device old new kept made part = part
  part_is_unsearched devices.Memory old new kept made part = part

-- the file that is recorded is that of the schedule that was found
pub file_of_found : {F E : Type 0} (bytes : F → List ℕ) (recording : Option Recording) (recorded : Bool) (schedule : List ScheduleEntry) (report : Report) (end : End) (result : Result (Option F) E)
    → IfOk result (λ file. is_some file ≡ recorded)
    → IfOk result (λ file. IfSome (option_map bytes file) (λ spelled. RecordedFile spelled recording (events_of schedule)))
    → IfOk result (λ file. IsFileOf recording recorded (answers.Found schedule report end) (option_map bytes file))
file_of_found bytes recording recorded schedule report end (Ok (Some file)) asked spelled = (asked, spelled)
file_of_found bytes recording recorded schedule report end (Ok None) asked spelled = (asked, spelled)
file_of_found bytes recording recorded schedule report end (Err fault) asked spelled = tt

-- ---- the line of a race

-- where a race is told it is that of the state to which the schedule leads
pub leads_to_race : (trees : Program) (limits : Limits) (is_told : Bool) (schedule : List ScheduleEntry) → IsRaceShown trees limits is_told (Some schedule)
    → LeadsToRace trees limits.frames (events_of schedule)
leads_to_race trees limits is_told schedule is = record { state = is.1.state; reached = is.1.reached; racy = is.1.is }

pub race_reached : (trees : Program) (frames : ℕ) (is_told : Bool) (events : List Event) {E : Type 0} {F : Type 0} (bytes : F → List ℕ) (result : Result F E)
    → IfOk result (λ text. IsReachedRaceLine trees frames events (bytes text)) → IfOk result (λ text. IsTrue is_told → IsRaceReached trees frames (bytes text))
race_reached trees frames is_told events bytes (Ok text) reached = λ tells. (events, reached)
race_reached trees frames is_told events bytes (Err fault) reached = tt

-- where none is told, any line is right
pub race_untold : (trees : Program) (limits : Limits) (is_told : Bool) (race : Option (List ScheduleEntry)) → IsRaceShown trees limits is_told race → race ≡ None
    → {E : Type 0} {F : Type 0} (bytes : F → List ℕ) (result : Result F E) → IfOk result (λ text. IsTrue is_told → IsRaceReached trees limits.frames (bytes text))
race_untold trees limits is_told race is none bytes (Ok text) = λ tells. absurd (true≢false (sym tells ∙ subst (IsRaceShown trees limits is_told) none is))
race_untold trees limits is_told race is none bytes (Err fault) = tt

-- beside an answer
pub race_told : (trees : Program) (limits : Limits) (answer : Answer) (outcomes : List Outcome) (told : Kinds) → answer ≡ answers.Complete outcomes told
    → {E : Type 0} {F : Type 0} (bytes : F → List ℕ) (result : Result F E) → IfOk result (λ text. IsTrue told.race → IsRaceReached trees limits.frames (bytes text))
    → IfOk result (λ text. TellsRace trees limits answer (bytes text))
race_told trees limits answer outcomes told is bytes (Ok text) tells = subst (λ (a : Answer). TellsRace trees limits a (bytes text)) (sym is) tells
race_told trees limits answer outcomes told is bytes (Err fault) tells = tt

-- an answer that isn't complete
abbrev pub IsOther : Answer → Type 0
IsOther (answers.Complete outcomes told) = ⊥
IsOther answer = Unit {0}

word_is : (trees : Program) (limits : Limits) (answer : Answer) → IsOther answer → (race : List ℕ) → race ≡ line (codes "race") → TellsRace trees limits answer race
word_is trees limits (answers.Found schedule report end) other race is = is
word_is trees limits (answers.Complete outcomes told) other race is = absurd other
word_is trees limits answers.GaveUp other race is = is

pub word_told : (trees : Program) (limits : Limits) (answer : Answer) → IsOther answer → {E : Type 0} {F : Type 0} (bytes : F → List ℕ) (result : Result F E)
    → IfOk result (λ race. bytes race ≡ line (codes "race")) → IfOk result (λ race. TellsRace trees limits answer (bytes race))
word_told trees limits answer other bytes (Ok race) is = word_is trees limits answer other (bytes race) is
word_told trees limits answer other bytes (Err fault) is = tt
