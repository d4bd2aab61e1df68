-- Entries of words.
use Rattle.std.specs.Prelude.{ℕ}
use Rattle.model.specs.declared.event.ScheduleEntry.{ScheduleEntry}
use Rattle.model.specs.Schedule.{EntryFits}
use Rattle.place_texts.specs.declared.place.Deed.{Deed}
use Rattle.place_texts.specs.declared.place.Deed.TheVariants as deeds

-- an event of a thread
abbrev pub once : ℕ → ScheduleEntry
once t = record { event = record { thread = t; pick = 0 }; repeat = 1 }

-- the entry of a word, or that of one event
abbrev pub entry_in : Deed → ScheduleEntry
entry_in (deeds.Entry entry) = entry
entry_in (deeds.Until thread place) = once 0

-- an entry is one that a schedule may have
abbrev pub Fits : Deed → Type 0
Fits deed = EntryFits (entry_in deed)
