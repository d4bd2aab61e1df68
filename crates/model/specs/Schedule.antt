-- Schedules, and the bytes of their entries in schedule files (own). Numbers are big-endian.
use Rattle.std.specs.Prelude.{◌≡◌, ◌≤◌, ◌<◌, ℕ, ◌^◌, List, [], ◌∷◌, ◌++◌, length, replicate, refl}
use Rattle.std.specs.List.{flat_map, AllByRecursion}
use Rattle.byteorder.specs.Endian.{big_bytes}
use Rattle.model.specs.declared.event.Event.{Event}
use Rattle.model.specs.declared.event.ScheduleEntry.{ScheduleEntry}
use Rattle.model.specs.declared.limits.Limits.{Limits}

-- ---- what a schedule is

-- an entry stands for so many equal events
abbrev pub events_of : List ScheduleEntry → List Event
events_of entries = flat_map (λ e. replicate e.repeat e.event) entries

-- what an entry may be: it stands for at least one event, and for several only where their pick is 0
pub record EntryFits (e : ScheduleEntry) : Type 0 where
  pub thread : e.event.thread < 2 ^ 16
  pub pick : e.event.pick < 2 ^ 16
  pub repeat : (1 ≤ e.repeat) × (e.repeat < 2 ^ 32)
  pub alone : 1 < e.repeat → e.event.pick ≡ 0

pub record AreEntries (entries : List ScheduleEntry) : Type 0 where
  pub count : length entries < 2 ^ 32
  pub each : AllByRecursion EntryFits entries

-- ---- the bytes of a schedule

abbrev pub entry : ScheduleEntry → List ℕ
entry e = big_bytes 2 e.event.thread ++ (big_bytes 2 e.event.pick ++ big_bytes 4 e.repeat)

-- how many, and each
abbrev pub table : List ScheduleEntry → List ℕ
table entries = big_bytes 4 (length entries) ++ flat_map entry entries

-- limits, in the order of their options
abbrev pub limits : Limits → List ℕ
limits l = flat_map (big_bytes 4) (l.objects ∷ l.cells ∷ l.monitors ∷ l.threads ∷ l.frames ∷ [])

-- ---- examples

eight : List ScheduleEntry
eight = record { event = record { thread = 0; pick = 0 }; repeat = 8 } ∷ []

-- eight steps of the main thread
eight_events : events_of eight ≡ replicate 8 (record { thread = 0; pick = 0 })
unfolding eight
eight_events = refl

eight_spelled : table eight ≡ 0 ∷ 0 ∷ 0 ∷ 1 ∷ 0 ∷ 0 ∷ 0 ∷ 0 ∷ 0 ∷ 0 ∷ 0 ∷ 8 ∷ []
unfolding eight
eight_spelled = refl
