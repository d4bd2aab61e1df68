-- Endless states that a search has met (own).
use Rattle.std.specs.Prelude.{◌≡◌, ◌<◌, ℕ, List, length}
use Rattle.model.specs.declared.event.ScheduleEntry.{ScheduleEntry}
use Rattle.model.specs.Schedule.{events_of}
use Rattle.machine.specs.Machines.{MachineOf}
use Rattle.schedule.specs.Joined.{AreJoined}
use Rattle.search.specs.States.{StatesOf, IsSchedule, IsInState}
use Rattle.search.specs.declared.searching.Verdict.{Verdict}
use Rattle.search.specs.declared.searching.Verdict.TheVariants as verdict

-- a machine was in the state of each number
abbrev pub WereMet : StatesOf → Type 0
WereMet s = (number : ℕ) → number < length s.schedules → (m : MachineOf) × IsInState s number m

-- found is the state of this number, by its schedule
abbrev pub IsFoundAt : StatesOf → (number : ℕ) → Verdict → Type 0
IsFoundAt s number v = (schedule : List ScheduleEntry) × (v ≡ verdict.Found schedule) × IsSchedule s number (events_of schedule) × AreJoined schedule
