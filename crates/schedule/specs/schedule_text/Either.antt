-- Schedules in either form, told apart by their first byte (own).
use Rattle.std.specs.Prelude.{◌≡◌, ◌⊎◌, ℕ, List, [], ◌∷◌, Option, Result, Ok, Err, Bool, true, false, nat_lt, ◌==◌, ◌&&◌, ◌||◌}
use Rattle.model.specs.declared.event.Event.{Event}
use Rattle.model.specs.declared.event.ScheduleEntry.{ScheduleEntry}
use Rattle.model.specs.Schedule.{events_of}
use Rattle.schedule.specs.Files.{Recording, ScheduleFile, schedule}
use Rattle.schedule.specs.declared.fault.ScheduleFault.TheVariants as files
use Rattle.schedule.specs.Outcomes as of_file
use Rattle.schedule.specs.declared.schedule_text.fault.TextFault.TheVariants as texts
use Rattle.schedule.specs.declared.schedule_text.either.EitherFault.{EitherFault}
use Rattle.schedule.specs.declared.schedule_text.either.EitherFault.TheVariants as faults
use Rattle.schedule.specs.schedule_text.Text.{SpellsSchedule, is_blank}

-- A text begins with a digit, with `/`, with `#`, or with white space. A schedule file begins with `J`.
abbrev pub begins_text : List ℕ → Bool
begins_text [] = false
begins_text (b ∷ _) = nat_lt 46 b && nat_lt b 58 || b == 35 || is_blank b

-- they are a text that spells these entries
abbrev pub IsText : List ℕ → Option Recording → List ScheduleEntry → Type 0
IsText bytes recorded entries = (begins_text bytes ≡ true) × SpellsSchedule bytes recorded entries

-- The bytes are a schedule file that spells these events, or such a text, and this is with what they were recorded.
abbrev pub GivesEvents : List ℕ → Option Recording → List Event → Type 0
GivesEvents bytes recorded events = ScheduleFile bytes recorded events
    ⊎ ((entries : List ScheduleEntry) × IsText bytes recorded entries × (events ≡ events_of entries))

-- the same of the entries as they stand in the bytes
abbrev pub GivesEntries : List ℕ → Option Recording → List ScheduleEntry → Type 0
GivesEntries bytes recorded entries = (bytes ≡ schedule recorded entries) ⊎ IsText bytes recorded entries

abbrev pub IsMemory : EitherFault → Type 0
IsMemory (faults.File fault) = fault ≡ files.OutOfMemory
IsMemory (faults.Text fault) = fault ≡ texts.OutOfMemory

-- these events are answered, and with what they were recorded, unless memory ran out
abbrev pub AnswersEvents : Result (List ScheduleEntry × Option Recording) EitherFault → Option Recording → List Event → Type 0
AnswersEvents (Ok read) recorded events = (read.1 ≡ recorded) × (events_of read.0 ≡ events)
AnswersEvents (Err fault) recorded events = IsMemory fault

-- What is so of bytes that are refused for this fault, memory apart: as a file, what the fault of a file says; and as a text, that they spell nothing.
abbrev pub StandsInEither : List ℕ → EitherFault → Type 0
StandsInEither bytes (faults.File fault) = (begins_text bytes ≡ false) × of_file.StandsIn bytes fault
StandsInEither bytes (faults.Text fault) = (begins_text bytes ≡ true) × ((recorded : Option Recording) (entries : List ScheduleEntry) → SpellsSchedule bytes recorded entries → ⊥)

-- memory ran out, or this is so of the bytes
abbrev pub IsFaultOf : List ℕ → EitherFault → Type 0
IsFaultOf bytes fault = IsMemory fault ⊎ StandsInEither bytes fault
