-- What the engine of shrinking answers and writes, by the bytes that its devices hold.
use Rattle.std.specs.Prelude.{◌≡◌, ◌⊎◌, ℕ, Bool, List, [], ◌∷◌, codes, Option, Some, None, IfSome, is_some, string_bytes, unwrap_or}
use Rattle.model.specs.declared.event.Event.{Event}
use Rattle.model.specs.declared.event.ScheduleEntry.{ScheduleEntry}
use Rattle.model.specs.declared.limits.Limits.{Limits}
use Rattle.model.specs.Classes.{Program}
use Rattle.model.specs.Devices.{AppendsFront}
use Rattle.model.specs.Schedule.{events_of}
use Rattle.schedule.specs.Files.{Recording}
use Rattle.schedule.specs.Joined.{RecordedFile}
use Rattle.schedule.specs.schedule_text.Printing.{printed_schedule}
use Rattle.command_line.specs.declared.options.Shrink.{Shrink}
use Rattle.search.specs.declared.run_outcomes.wanted.Wanted.{Wanted}
use Rattle.shrinking.specs.Shrunk.{Has, IsShrunk, Lacks, TriesFor}
use Rattle.engines.specs.Engines.{Reads, ReadsEach}
use Rattle.engines.specs.Files.{Held, OfSchedule, Written, written_at}
use Rattle.engines.specs.Goals.{IsAskedFor}
use Rattle.engines.specs.Opening.{IsKeptBy, IsOpened}
use Rattle.engines.specs.RecordForms.{record_form, recorded_as}
use Rattle.engines.specs.Recordings.{conditions_of}
use Rattle.engines.specs.declared.fault.Fault.{Fault}
use Rattle.engines.specs.declared.fault.Fault.TheVariants as faults
use Rattle.engines.specs.declared.recording.RecordForm.{RecordForm}
use Rattle.engines.specs.declared.status.Status.{Status}
use Rattle.engines.specs.declared.status.Status.TheVariants as statuses

-- ---- what is written

-- the words of the entries alone, without what a schedule is recorded with: where there are none, a line without a word
abbrev pub shrunk_text : Option (List ScheduleEntry) → List ℕ
shrunk_text (Some []) = codes "\n"
shrunk_text (Some (entry ∷ entries)) = printed_schedule None (entry ∷ entries)
shrunk_text None = []

-- the given schedule hasn't got the outcome
abbrev pub shrunk_status : Option (List ScheduleEntry) → Status
shrunk_status (Some entries) = statuses.Returned
shrunk_status None = statuses.Threw

abbrev pub IsFileOf : Option Recording → (asked : Bool) → Option (List ScheduleEntry) → Option (List ℕ) → Type 0
IsFileOf recording asked (Some entries) file = (is_some file ≡ asked) × IfSome file (λ bytes. RecordedFile bytes recording (events_of entries))
IsFileOf recording asked None file = file ≡ None

-- text, status, and the file that is made where one is asked for
pub record IsShrunkBy (limits : Limits) (form : RecordForm) (files : List (List ℕ)) (asked : Bool) (shrunk : Option (List ScheduleEntry)) (text : List ℕ)
    (file : Option (List ℕ)) (status : Status) : Type 0 where
  pub told : text ≡ shrunk_text shrunk
  pub ended : status ≡ shrunk_status shrunk
  pub spelled : IsFileOf (recorded_as limits form files) asked shrunk file

-- replays of the program that go on, with the budget that is asked for, for what is wanted
abbrev pub tries_of : Program → Limits → Shrink → Wanted → TriesFor
tries_of trees limits options want = record { trees = trees; limits = limits; budget = unwrap_or options.budget 10000000; want = want }

-- The schedule and the class files are such as they have to be. This schedule is found, if the given one has the outcome; and this is written.
pub record IsShrunkOf (schedule : List ℕ) (given : ℕ) (files : List (List ℕ)) (options : Shrink) (want : Wanted) (text : List ℕ) (file : Option (List ℕ))
    (status : Status) : Type 0 where
  pub trees : Program
  pub events : List Event
  pub limits : Limits
  pub gives_up : Bool
  pub opened : IsOpened schedule files (conditions_of options.limits options.any_files given (unwrap_or options.budget 10000000)) trees events limits gives_up
  pub shrunk : Option (List ScheduleEntry)
  pub is : IsShrunk (Has (tries_of trees limits options want)) (Lacks (tries_of trees limits options want)) events shrunk
  pub written : IsShrunkBy limits (record_form given options.as_version) files (is_some options.record) shrunk text file status

-- the same of what these sources hold
abbrev pub Shrinks : Option (List ℕ) → (given : ℕ) → List (Option (List ℕ)) → Shrink → Wanted → List ℕ → Option (List ℕ) → Status → Type 0
Shrinks left given lefts options want text file status =
    (schedule : List ℕ) × (files : List (List ℕ)) × Reads left schedule × ReadsEach lefts files × IsShrunkOf schedule given files options want text file status

-- ---- what is written where there is a fault

-- nothing is written, and no file made; or the file is made, and a front of the text is written
abbrev pub ShrinksPart : Option (List ℕ) → (given : ℕ) → List (Option (List ℕ)) → Shrink → Wanted → (old new : Option (List ℕ)) → (kept made : Option (List ℕ)) → Type 0
ShrinksPart left given lefts options want old new kept made = ((new ≡ old) × (made ≡ kept))
    ⊎ ((text : List ℕ) × (status : Status) × Shrinks left given lefts options want text made status × AppendsFront old new text)

-- When a fault is answered, and what is written then.
abbrev pub IsUnshrunk : Option (List ℕ) → (given : ℕ) → List (Option (List ℕ)) → Shrink → Wanted → (old new : Option (List ℕ)) → (kept made : Option (List ℕ))
    → Fault → Type 0
IsUnshrunk left given lefts options want old new kept made faults.Device = ShrinksPart left given lefts options want old new kept made
IsUnshrunk left given lefts options want old new kept made faults.Memory = ShrinksPart left given lefts options want old new kept made
IsUnshrunk left given lefts options want old new kept made fault =
    (new ≡ old) × (made ≡ kept) × IsKeptBy left lefts (conditions_of options.limits options.any_files given (unwrap_or options.budget 10000000)) fault

-- ---- the command

pub record IsShrinkDone (held : Held) (given : ℕ) (lefts : List (Option (List ℕ))) (shrink : Shrink) (text : List ℕ) (written : Written) (status : Status) : Type 0 where
  pub want : Wanted
  pub asked : IsAskedFor held (Some shrink.goal) want
  pub file : Option (List ℕ)
  pub shrinks : OfSchedule held (string_bytes shrink.schedule) (λ left. Shrinks left given lefts shrink want text file status)
  pub recorded : written ≡ written_at shrink.record file

pub record IsShrinkUndone (held : Held) (given : ℕ) (lefts : List (Option (List ℕ))) (shrink : Shrink) (old new : Option (List ℕ)) (fault : Fault) (written : Written) : Type 0 where
  pub want : Wanted
  pub asked : IsAskedFor held (Some shrink.goal) want
  pub file : Option (List ℕ)
  pub unshrunk : OfSchedule held (string_bytes shrink.schedule) (λ left. IsUnshrunk left given lefts shrink want old new None file fault)
  pub recorded : (written ≡ None) ⊎ (written ≡ written_at shrink.record file)
