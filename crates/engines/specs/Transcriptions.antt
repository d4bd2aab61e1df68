-- What the engines of schedules answer and write, by the bytes that their devices hold.
use Rattle.std.specs.Prelude.{◌≡◌, ◌⊎◌, ℕ, List, Option, Some, None, ◌==◌, if◌then◌else◌}
use Rattle.std.specs.Option.{option_map}
use Rattle.model.specs.declared.event.ScheduleEntry.{ScheduleEntry}
use Rattle.model.specs.Devices.{AppendsFront}
use Rattle.schedule.specs.Files.{Recording, schedule, without_checksums}
use Rattle.schedule.specs.declared.fault.ScheduleFault.TheVariants as schedules
use Rattle.schedule.specs.schedule_text.Either.{GivesEntries}
use Rattle.schedule.specs.schedule_text.Printing.{printed_schedule}
use Rattle.schedule.specs.schedule_text.Text.{SpellsSchedule}
use Rattle.schedule.specs.declared.schedule_text.either.EitherFault.TheVariants.{File, Text}
use Rattle.schedule.specs.declared.schedule_text.fault.TextFault.TheVariants as texts
use Rattle.engines.specs.Engines.{Reads}
use Rattle.engines.specs.Opening.{IsUnspelled}
use Rattle.engines.specs.declared.fault.Fault.{Fault}
use Rattle.engines.specs.declared.fault.Fault.TheVariants as faults

-- ---- a schedule as text

-- the source gives a schedule, and the text is that of its entries as they stand, and of what it was recorded with, which it spells
abbrev pub Prints : Option (List ℕ) → List ℕ → Type 0
Prints left text = (bytes : List ℕ) × (recorded : Option Recording) × (entries : List ScheduleEntry)
    × Reads left bytes × GivesEntries bytes recorded entries × SpellsSchedule text recorded entries
    × (text ≡ printed_schedule recorded entries)

abbrev pub PrintsPart : Option (List ℕ) → (old new : Option (List ℕ)) → Type 0
PrintsPart left old new = (new ≡ old) ⊎ ((text : List ℕ) × Prints left text × AppendsFront old new text)

-- When a fault is answered, and what is written then.
abbrev pub IsUnprinted : Option (List ℕ) → (old new : Option (List ℕ)) → Fault → Type 0
IsUnprinted left old new faults.Device = PrintsPart left old new
IsUnprinted left old new faults.Memory = PrintsPart left old new
IsUnprinted left old new (faults.Schedule fault) = (new ≡ old) × ((fault ≡ schedules.OutOfMemory) ⊎ IsUnspelled left (File fault))
IsUnprinted left old new (faults.Text fault) = (new ≡ old) × ((fault ≡ texts.OutOfMemory) ⊎ IsUnspelled left (Text fault))
IsUnprinted left old new (faults.Place missing) = ⊥
IsUnprinted left old new (faults.Refusal refusal) = ⊥

-- ---- a text as schedule file

-- what a file of a version tells of a recording, or of a later one, where that is asked for
abbrev pub told_as : (as_version : Option ℕ) → Option Recording → Option Recording
told_as None recorded = recorded
told_as (Some version) recorded = if version == 1 then None else if version == 2 then option_map without_checksums recorded else recorded

-- the source holds a text, and these are the bytes of the entries that it spells, and of what it says that they were recorded with, as far
-- as a file of the version tells it
abbrev pub Transcribes : (as_version : Option ℕ) → Option (List ℕ) → List ℕ → Type 0
Transcribes as_version left bytes = (text : List ℕ) × (recorded : Option Recording) × (entries : List ScheduleEntry)
    × Reads left text × SpellsSchedule text recorded entries × (bytes ≡ schedule (told_as as_version recorded) entries)

abbrev pub TranscribesPart : (as_version : Option ℕ) → Option (List ℕ) → (old new : Option (List ℕ)) → Type 0
TranscribesPart as_version left old new = (new ≡ old) ⊎ ((bytes : List ℕ) × Transcribes as_version left bytes × AppendsFront old new bytes)

-- it spells no schedule
abbrev pub IsNoText : Option (List ℕ) → Type 0
IsNoText left = (text : List ℕ) × Reads left text × ((recorded : Option Recording) (entries : List ScheduleEntry) → SpellsSchedule text recorded entries → ⊥)

-- When a fault is answered, and what is written then.
abbrev pub IsUntranscribed : (as_version : Option ℕ) → Option (List ℕ) → (old new : Option (List ℕ)) → Fault → Type 0
IsUntranscribed as_version left old new faults.Device = TranscribesPart as_version left old new
IsUntranscribed as_version left old new faults.Memory = TranscribesPart as_version left old new
IsUntranscribed as_version left old new (faults.Text fault) = (new ≡ old) × ((fault ≡ texts.OutOfMemory) ⊎ IsNoText left)
IsUntranscribed as_version left old new (faults.Place missing) = ⊥
IsUntranscribed as_version left old new (faults.Schedule fault) = ⊥
IsUntranscribed as_version left old new (faults.Refusal refusal) = ⊥
