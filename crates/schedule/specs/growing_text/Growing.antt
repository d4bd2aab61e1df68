-- Texts of schedules that grow as a run goes on (own).
use Rattle.std.specs.Prelude.{◌≡◌, ◌≤◌, ◌<◌, ℕ, ◌^◌, List, ◌++◌, length, map, take, codes, Option}
use Rattle.std.specs.List.{AllByRecursion, flat_map}
use Rattle.model.specs.declared.event.Event.{Event}
use Rattle.model.specs.declared.event.ScheduleEntry.{ScheduleEntry}
use Rattle.model.specs.Schedule.{events_of}
use Rattle.schedule.specs.Files.{RecordedFits, Recording}
use Rattle.schedule.specs.Joined.{AreRuns}
use Rattle.schedule.specs.schedule_text.Printing.{in_lines, printed_recording}
use Rattle.schedule.specs.schedule_text.Text.{SpellsSchedule, entry_word}

-- what stands in front of the entries
abbrev pub growing_front : Option Recording → List ℕ
growing_front recorded = codes "#growing\n" ++ printed_recording recorded

-- entries that are written at a time, in lines of 16
abbrev pub part_text : List ScheduleEntry → List ℕ
part_text part = in_lines (map entry_word part)

-- A text has grown to these events, a part at a time: the entries of each part are joined.
pub record HasGrown (text : List ℕ) (recorded : Option Recording) (events : List Event) : Type 0 where
  pub parts : List (List ScheduleEntry)
  pub recording_fits : RecordedFits recorded
  pub joined : AllByRecursion AreRuns parts
  pub few : length events < 2 ^ 32
  pub are : events ≡ flat_map events_of parts
  pub text_is : text ≡ growing_front recorded ++ flat_map part_text parts

-- The text spells a schedule of the first of these events, and with what they were recorded.
pub record SpellsFront (text : List ℕ) (recorded : Option Recording) (events : List Event) : Type 0 where
  pub entries : List ScheduleEntry
  pub spells : SpellsSchedule text recorded entries
  pub others : List Event
  pub front : events ≡ events_of entries ++ others

-- so it is with every front of a text that has grown, whatever byte it ends behind, once its entries begin
abbrev pub DoFrontsSpell : Type 0
DoFrontsSpell = (text : List ℕ) (recorded : Option Recording) (events : List Event) → HasGrown text recorded events
    → (n : ℕ) → length (growing_front recorded) ≤ n → SpellsFront (take n text) recorded events

-- and all of it spells all of them
abbrev pub DoTextsSpell : Type 0
DoTextsSpell = (text : List ℕ) (recorded : Option Recording) (events : List Event) → HasGrown text recorded events
    → (entries : List ScheduleEntry) × SpellsSchedule text recorded entries × (events_of entries ≡ events)

-- With this behind it, a text that has grown to the first so many events has grown to all of them.
abbrev pub GrowsBy : ℕ → List Event → List ℕ → Type 0
GrowsBy count events more = (text : List ℕ) (recorded : Option Recording) → HasGrown text recorded (take count events)
    → HasGrown (text ++ more) recorded events
