-- What a replay begins with, and what keeps it from that (JVMS 4.10, 5.3, 5.4), by the bytes that its sources hold.
use Rattle.std.specs.Prelude.{◌≡◌, ◌⊎◌, ◌++◌, ◌∷◌, ℕ, List, Option, Some, Bool}
use Rattle.model.specs.declared.event.Event.{Event}
use Rattle.model.specs.declared.limits.Limits.{Limits}
use Rattle.model.specs.Classes.{Program}
use Rattle.model.specs.Accepted.{IsAccepted}
use Rattle.schedule.specs.Files.{Recording}
use Rattle.schedule.specs.declared.fault.ScheduleFault.{ScheduleFault}
use Rattle.schedule.specs.declared.fault.ScheduleFault.TheVariants as schedules
use Rattle.schedule.specs.schedule_text.Either.{GivesEvents, StandsInEither}
use Rattle.schedule.specs.declared.schedule_text.either.EitherFault.{EitherFault}
use Rattle.schedule.specs.declared.schedule_text.either.EitherFault.TheVariants.{File, Text}
use Rattle.schedule.specs.declared.schedule_text.fault.TextFault.TheVariants as texts
use Rattle.link_conditions.specs.declared.refusal.why.Refusal.{Refusal}
use Rattle.link_conditions.specs.declared.refusal.why.RefusalKind.TheVariants as kinds
use Rattle.schedule.specs.schedule_text.Text.{text_words}
use Rattle.place_texts.specs.Places.{DeedOf, PlaceOf, Until}
use Rattle.place_texts.specs.Texts.{SpellDeeds, place_words}
use Rattle.code_places.specs.There.{Misses}
use Rattle.engines.specs.declared.place_schedules.MissingPlace.{MissingPlace}
use Rattle.engines.specs.GivenPlaces.{Gives, Spells}
use Rattle.engines.specs.Engines.{Reads, ReadsEach}
use Rattle.engines.specs.Recordings.{Disagrees, FitsFiles, FitsOptions, HasLimits}
use Rattle.engines.specs.Refusals.{IsRefused}
use Rattle.engines.specs.declared.fault.Fault.{Fault}
use Rattle.engines.specs.declared.fault.Fault.TheVariants as faults
use Rattle.engines.specs.declared.recording.Conditions.{Conditions}

-- ---- what it begins with

-- The bytes give a schedule, and the class files and the options fit with what it was recorded with, if the bytes say so. The class
-- files are accepted, and are this program. It is to run under these events, and within these limits.
pub record IsOpened (schedule : List ℕ) (files : List (List ℕ)) (options : Conditions) (trees : Program) (events : List Event)
    (limits : Limits) (gives_up : Bool) : Type 0 where
  pub recorded : Option Recording
  pub given : Gives schedule trees limits options.budget recorded events gives_up
  pub fits_files : FitsFiles options.any_files options.given recorded files
  pub fits_options : FitsOptions recorded options.limits
  pub limited : HasLimits recorded options.limits limits
  pub accepted : IsAccepted files trees

-- ---- what keeps it from that

-- the bytes give no schedule, and the fault stands in them
abbrev pub IsUnspelled : Option (List ℕ) → EitherFault → Type 0
IsUnspelled left fault = (schedule : List ℕ) × Reads left schedule × ((recorded : Option Recording) (events : List Event) → GivesEvents schedule recorded events → ⊥) × StandsInEither schedule fault

-- they give one, and with what it was recorded does not fit the class files or the options
abbrev pub IsUnfit : Option (List ℕ) → List (Option (List ℕ)) → Conditions → ScheduleFault → Type 0
IsUnfit left lefts options fault = (schedule : List ℕ) × (files : List (List ℕ)) × (recorded : Option Recording)
    × Reads left schedule × ReadsEach lefts files × Spells schedule recorded × Disagrees recorded files options fault

-- they give one, all of that fits, and the class files are refused
pub record IsUnlinked (left : Option (List ℕ)) (lefts : List (Option (List ℕ))) (options : Conditions) (refusal : Refusal) : Type 0 where
  pub schedule : List ℕ
  pub files : List (List ℕ)
  pub recorded : Option Recording
  pub read : Reads left schedule
  pub read_files : ReadsEach lefts files
  pub given : Spells schedule recorded
  pub fits_files : FitsFiles options.any_files options.given recorded files
  pub fits_options : FitsOptions recorded options.limits
  pub refused : IsRefused files refusal

-- The words of a text are those of places and entries, the class files are accepted, and what is told of the place of a word isn't there.
pub record IsMisplaced (left : Option (List ℕ)) (lefts : List (Option (List ℕ))) (missing : MissingPlace) : Type 0 where
  pub schedule : List ℕ
  pub files : List (List ℕ)
  pub trees : Program
  pub read : Reads left schedule
  pub read_files : ReadsEach lefts files
  pub accepted : IsAccepted files trees
  pub before : List DeedOf
  pub thread : ℕ
  pub place : PlaceOf
  pub behind : List DeedOf
  pub spelled : SpellDeeds (text_words schedule) (before ++ Until thread place ∷ behind)
  pub misses : Misses trees place (Some missing.fault)
  pub told : missing.words.items ≡ place_words place

-- Why nothing is run. A device that failed says no more, and memory may be wanted for each part.
abbrev pub IsKeptBy : Option (List ℕ) → List (Option (List ℕ)) → Conditions → Fault → Type 0
IsKeptBy left lefts options faults.Device = Unit {0}
IsKeptBy left lefts options faults.Memory = Unit {0}
IsKeptBy left lefts options (faults.Schedule fault) = (fault ≡ schedules.OutOfMemory) ⊎ IsUnspelled left (File fault) ⊎ IsUnfit left lefts options fault
IsKeptBy left lefts options (faults.Text fault) = (fault ≡ texts.OutOfMemory) ⊎ IsUnspelled left (Text fault)
IsKeptBy left lefts options (faults.Place missing) = IsMisplaced left lefts missing
IsKeptBy left lefts options (faults.Refusal refusal) = (refusal.kind ≡ kinds.OutOfMemory) ⊎ IsUnlinked left lefts options refusal

-- ---- what comes first

-- the fault is one of the schedule
abbrev pub IsOfSchedule : Fault → Type 0
IsOfSchedule faults.Device = ⊥
IsOfSchedule faults.Memory = ⊥
IsOfSchedule (faults.Schedule fault) = Unit {0}
IsOfSchedule (faults.Text fault) = Unit {0}
IsOfSchedule (faults.Place missing) = Unit {0}
IsOfSchedule (faults.Refusal refusal) = ⊥

-- the class files are read before such a fault: they, or the options, don't fit with what the schedule was recorded with, or a place isn't there
abbrev pub IsAfterFiles : Option (List ℕ) → List (Option (List ℕ)) → Conditions → Fault → Type 0
IsAfterFiles left lefts options (faults.Schedule fault) = IsUnfit left lefts options fault
IsAfterFiles left lefts options (faults.Place missing) = IsMisplaced left lefts missing
IsAfterFiles left lefts options fault = ⊥
