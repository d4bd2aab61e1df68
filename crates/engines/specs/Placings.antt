-- What the engine of texts with places answers and writes, by the bytes that its devices hold.
use Rattle.std.specs.Prelude.{◌≡◌, ◌⊎◌, ℕ, List, Option, None, Bool, string_bytes}
use Rattle.model.specs.declared.event.Event.{Event}
use Rattle.model.specs.declared.event.ScheduleEntry.{ScheduleEntry}
use Rattle.model.specs.declared.limits.Limits.{Limits}
use Rattle.model.specs.Classes.{Program}
use Rattle.model.specs.Devices.{AppendsFront}
use Rattle.model.specs.Schedule.{events_of}
use Rattle.schedule.specs.schedule_text.Text.{SpellsSchedule}
use Rattle.command_line.specs.declared.options.LimitOptions.{LimitOptions}
use Rattle.command_line.specs.declared.options.Places.{Places as PlacesCommand}
use Rattle.place_runs.specs.Placing.{IsPlacedText}
use Rattle.engines.specs.Engines.{Reads, ReadsEach}
use Rattle.engines.specs.Files.{Held, OfSchedule}
use Rattle.engines.specs.Opening.{IsKeptBy, IsOpened}
use Rattle.engines.specs.Recordings.{conditions_of}
use Rattle.engines.specs.declared.fault.Fault.{Fault}
use Rattle.engines.specs.declared.fault.Fault.TheVariants as faults
use Rattle.engines.specs.declared.recording.Conditions.{Conditions}

-- the words of a text are entries of these events
abbrev pub SpellsEvents : List Event → List ℕ → Type 0
SpellsEvents events text = (entries : List ScheduleEntry) × SpellsSchedule text None entries × (events_of entries ≡ events)

-- The words of a text are places and entries, and over these class files they stand for these events; or they are entries alone.
abbrev pub StandsFor : Program → Limits → List Event → List ℕ → Type 0
StandsFor trees limits events text = IsPlacedText trees limits events text ⊎ SpellsEvents events text

-- The schedule and the class files are such as they have to be, and the text stands for the events of the schedule.
pub record IsPlaced (schedule : List ℕ) (files : List (List ℕ)) (options : Conditions) (text : List ℕ) : Type 0 where
  pub trees : Program
  pub events : List Event
  pub limits : Limits
  pub gives_up : Bool
  pub opened : IsOpened schedule files options trees events limits gives_up
  pub stands : StandsFor trees limits events text

-- the same of what these sources hold
abbrev pub Places : Option (List ℕ) → List (Option (List ℕ)) → Conditions → List ℕ → Type 0
Places left lefts options text = (schedule : List ℕ) × (files : List (List ℕ)) × Reads left schedule × ReadsEach lefts files × IsPlaced schedule files options text

-- nothing is written, or a front of such a text
abbrev pub PlacesPart : Option (List ℕ) → List (Option (List ℕ)) → Conditions → (old new : Option (List ℕ)) → Type 0
PlacesPart left lefts options old new = (new ≡ old) ⊎ ((text : List ℕ) × Places left lefts options text × AppendsFront old new text)

-- When a fault is answered, and what is written then.
abbrev pub IsUnplaced : Option (List ℕ) → List (Option (List ℕ)) → Conditions → (old new : Option (List ℕ)) → Fault → Type 0
IsUnplaced left lefts options old new faults.Device = PlacesPart left lefts options old new
IsUnplaced left lefts options old new faults.Memory = PlacesPart left lefts options old new
IsUnplaced left lefts options old new fault = (new ≡ old) × IsKeptBy left lefts options fault

-- ---- the command

-- no limit is asked for
abbrev pub AreUsual : LimitOptions → Type 0
AreUsual limits = (limits.objects ≡ None) × (limits.cells ≡ None) × (limits.monitors ≡ None) × (limits.threads ≡ None) × (limits.frames ≡ None)

abbrev pub IsPlacesDone : Held → (given : ℕ) → (lefts : List (Option (List ℕ))) → PlacesCommand → List ℕ → Type 0
IsPlacesDone held given lefts places text = (limits : LimitOptions) × AreUsual limits
    × OfSchedule held (string_bytes places.schedule) (λ left. Places left lefts (conditions_of limits places.any_files given 10000000) text)

abbrev pub IsPlacesUndone : Held → (given : ℕ) → (lefts : List (Option (List ℕ))) → PlacesCommand → (old new : Option (List ℕ)) → Fault → Type 0
IsPlacesUndone held given lefts places old new fault = (limits : LimitOptions) × AreUsual limits
    × OfSchedule held (string_bytes places.schedule) (λ left. IsUnplaced left lefts (conditions_of limits places.any_files given 10000000) old new fault)
