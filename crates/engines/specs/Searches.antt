-- What the engine of searches answers and writes, by the bytes that its devices hold. Where a device says nothing of its bytes,
-- they are any that it may have handed over.
use Rattle.std.specs.Prelude.{◌≡◌, ◌⊎◌, ◌≤◌, ◌/◌, ℕ, Bool, List, length, min, Option, None, IfSome, is_some, unwrap_or, IsTrue, codes}
use Rattle.model.specs.declared.event.Event.{Event}
use Rattle.model.specs.declared.limits.Limits.{Limits}
use Rattle.model.specs.Accepted.{IsAccepted}
use Rattle.model.specs.Classes.{Program}
use Rattle.model.specs.Devices.{AppendsFront}
use Rattle.model.specs.Report.{line}
use Rattle.model.specs.Schedule.{events_of}
use Rattle.schedule.specs.Files.{Recording}
use Rattle.schedule.specs.Joined.{RecordedFile}
use Rattle.command_line.specs.Choices.{AreChosen}
use Rattle.command_line.specs.declared.options.LimitOptions.{LimitOptions}
use Rattle.command_line.specs.declared.options.Search.{Search}
use Rattle.search.specs.declared.kinds.Goal.{Goal}
use Rattle.search.specs.OwnEdges.{names_own_edges}
use Rattle.search.specs.search_reports.Reports.{search_text}
use Rattle.search.specs.declared.search_reports.answers.Answer.{Answer}
use Rattle.search.specs.declared.search_reports.answers.Answer.TheVariants as answers
use Rattle.state_races.specs.reached_races.Reached.{IsReachedRaceLine}
use Rattle.engines.specs.Engines.{ReadsEach}
use Rattle.engines.specs.RecordForms.{recorded_as}
use Rattle.engines.specs.Refusals.{IsRefused}
use Rattle.engines.specs.Statuses.{search_status}
use Rattle.engines.specs.Theorem.{Says}
use Rattle.engines.specs.Verifications.{IsUnread}
use Rattle.engines.specs.declared.fault.Fault.{Fault}
use Rattle.engines.specs.declared.fault.Fault.TheVariants as faults
use Rattle.engines.specs.declared.recording.RecordForm.{RecordForm}
use Rattle.engines.specs.declared.status.Status.{Status}

-- ---- what is written

-- The bytes of the file spell the schedule that was found, and with what it is recorded; there is one where it is asked for. Where
-- none was found there is no file.
abbrev pub IsFileOf : Option Recording → (asked : Bool) → Answer → Option (List ℕ) → Type 0
IsFileOf recording asked (answers.Found schedule report end) file = (is_some file ≡ asked) × IfSome file (λ bytes. RecordedFile bytes recording (events_of schedule))
IsFileOf recording asked (answers.Complete outcomes kinds) file = file ≡ None
IsFileOf recording asked answers.GaveUp file = file ≡ None

-- how many states a search may meet, by its options: not more than have room
abbrev pub most_states : Search → ℕ
most_states search = min (unwrap_or search.states 10000000) (unwrap_or search.memory 1000000000 / 128)

-- the line of a race of a state to which some run comes
abbrev pub IsRaceReached : Program → (frames : ℕ) → (words : List ℕ) → Type 0
IsRaceReached trees frames words = (events : List Event) × IsReachedRaceLine trees frames events words

-- so it is beside a complete answer that tells a race; beside any other it is the word alone
abbrev pub TellsRace : Program → Limits → Answer → (race : List ℕ) → Type 0
TellsRace trees limits (answers.Complete outcomes kinds) race = IsTrue kinds.race → IsRaceReached trees limits.frames race
TellsRace trees limits answer race = race ≡ line (codes "race")

-- The class files are accepted. A search over all schedules of their program, within the limits, has this answer, with so many states
-- met, and no more than may be; and this is its text, with the line of a race of a state to which a run comes, the file of the schedule,
-- and the status.
pub record IsSearched (form : RecordForm) (files : List (List ℕ)) (asked : LimitOptions) (goal : Goal) (may_stop : Bool) (most : ℕ) (recorded : Bool) (text : List ℕ)
    (file : Option (List ℕ)) (status : Status) : Type 0 where
  pub trees : Program
  pub accepted : IsAccepted files trees
  pub limits : Limits
  pub chosen : AreChosen asked limits
  pub answer : Answer
  pub states : ℕ
  pub few : 1 ≤ most → states ≤ most
  pub says : Says trees limits goal may_stop most states answer
  pub race : List ℕ
  pub raced : TellsRace trees limits answer race
  pub told : text ≡ search_text answer race (names_own_edges trees) states
  pub spelled : IsFileOf (recorded_as limits form files) recorded answer file
  pub ended : status ≡ search_status answer

-- the same of what these sources hold
abbrev pub Searches : (form : RecordForm) → List (Option (List ℕ)) → LimitOptions → Goal → (may_stop : Bool) → (most : ℕ) → (recorded : Bool) → List ℕ → Option (List ℕ) → Status → Type 0
Searches form lefts asked goal may_stop most recorded text file status = (files : List (List ℕ)) × ReadsEach lefts files × IsSearched form files asked goal may_stop most recorded text file status

-- ---- what is written where there is a fault

-- nothing is written, and no file made; or the file is made, and a front of the text is written
abbrev pub SearchesPart : (form : RecordForm) → List (Option (List ℕ)) → LimitOptions → Goal → (may_stop : Bool) → (most : ℕ) → (recorded : Bool) → (old new : Option (List ℕ))
    → (kept made : Option (List ℕ)) → Type 0
SearchesPart form lefts asked goal may_stop most recorded old new kept made = ((new ≡ old) × (made ≡ kept))
    ⊎ ((text : List ℕ) × (status : Status) × Searches form lefts asked goal may_stop most recorded text made status × AppendsFront old new text)

-- When a fault is answered, and what is written then.
abbrev pub IsUnsearched : (form : RecordForm) → List (Option (List ℕ)) → LimitOptions → Goal → (may_stop : Bool) → (most : ℕ) → (recorded : Bool) → (old new : Option (List ℕ))
    → (kept made : Option (List ℕ)) → Fault → Type 0
IsUnsearched form lefts asked goal may_stop most recorded old new kept made faults.Device = SearchesPart form lefts asked goal may_stop most recorded old new kept made
IsUnsearched form lefts asked goal may_stop most recorded old new kept made faults.Memory = SearchesPart form lefts asked goal may_stop most recorded old new kept made
-- memory for the reading aside, the class files are refused
IsUnsearched form lefts asked goal may_stop most recorded old new kept made (faults.Refusal refusal) = (new ≡ old) × (made ≡ kept) × (IsUnread (length lefts) refusal
    ⊎ ((files : List (List ℕ)) × ReadsEach lefts files × IsRefused files refusal))
IsUnsearched form lefts asked goal may_stop most recorded old new kept made (faults.Schedule fault) = ⊥
IsUnsearched form lefts asked goal may_stop most recorded old new kept made (faults.Text fault) = ⊥
IsUnsearched form lefts asked goal may_stop most recorded old new kept made (faults.Place missing) = ⊥
