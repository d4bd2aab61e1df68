-- How often events go from a thread to another one (own).
use Rattle.std.specs.Prelude.{◌≡◌, ◌+◌, ◌==◌, ℕ, List, [], ◌∷◌, cond, refl}
use Rattle.model.specs.declared.event.Event.{Event}
use Rattle.model.specs.declared.event.ScheduleEntry.{ScheduleEntry}
use Rattle.model.specs.Schedule.{events_of}

-- how many of these events are of another thread than the one before them, where this is the thread before the first
abbrev pub switches_behind : (before : ℕ) → List Event → ℕ
switches_behind before [] = 0
switches_behind before (event ∷ events) = cond (event.thread == before) 0 1 + switches_behind event.thread events

abbrev pub switches : List Event → ℕ
switches [] = 0
switches (event ∷ events) = switches_behind event.thread events

-- ---- an example

entry : (thread repeat : ℕ) → ScheduleEntry
entry thread repeat = record { event = record { thread = thread; pick = 0 }; repeat = repeat }

three : switches (events_of (entry 0 3 ∷ entry 1 1 ∷ entry 1 2 ∷ entry 0 1 ∷ entry 2 1 ∷ [])) ≡ 3
unfolding entry
three = refl
