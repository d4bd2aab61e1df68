-- What reading a schedule file answers.
use Rattle.std.specs.Prelude.{◌≡◌, ◌⊎◌, ◌<◌, ◌≤◌, ℕ, List, [], ◌∷◌, ◌++◌, length, codes, Option, Result, Ok, Err}
use Rattle.model.specs.declared.event.Event.{Event}
use Rattle.model.specs.declared.event.ScheduleEntry.{ScheduleEntry}
use Rattle.model.specs.Schedule.{events_of}
use Rattle.schedule.specs.Files.{Recording, ScheduleFile}
use Rattle.schedule.specs.declared.fault.ScheduleFault.{ScheduleFault}
use Rattle.schedule.specs.declared.fault.ScheduleFault.TheVariants as faults
use Rattle.schedule.specs.Reading.{schedule_at}

-- these events are answered, and with what they were recorded, unless memory ran out
abbrev pub Answers : Result (List ScheduleEntry × Option Recording) ScheduleFault → Option Recording → List Event → Type 0
Answers (Ok read) recorded events = (read.1 ≡ recorded) × (events_of read.0 ≡ events)
Answers (Err e) recorded events = e ≡ faults.OutOfMemory

abbrev pub BeginsWith : List ℕ → List ℕ → Type 0
BeginsWith front bytes = (rest : List ℕ) × (bytes ≡ front ++ rest)

-- the bytes `JSCH` and this version stand first
abbrev pub HasVersion : ℕ → List ℕ → Type 0
HasVersion version bytes = BeginsWith (codes "JSCH" ++ version ∷ []) bytes

-- bytes follow a schedule file
pub record HasMore (bytes : List ℕ) : Type 0 where
  pub file : List ℕ
  pub recorded : Option Recording
  pub events : List Event
  pub more : List ℕ
  pub spelled : ScheduleFile file recorded events
  pub some : 0 < length more
  pub parts : bytes ≡ file ++ more

-- What is so of bytes that are refused for this fault.
abbrev pub StandsIn : List ℕ → ScheduleFault → Type 0
-- the first four bytes are there, and others
StandsIn bytes faults.Magic = (4 ≤ length bytes) × (BeginsWith (codes "JSCH") bytes → ⊥)
-- behind them the fifth is there, and neither 1, 2 nor 3
StandsIn bytes faults.Version = (5 ≤ length bytes) × BeginsWith (codes "JSCH") bytes × (HasVersion 1 bytes → ⊥) × (HasVersion 2 bytes → ⊥) × (HasVersion 3 bytes → ⊥)
StandsIn bytes faults.Trailing = HasMore bytes
-- reading from left to right ends with it
StandsIn bytes faults.Truncated = schedule_at bytes ≡ Err faults.Truncated
StandsIn bytes faults.Repeat = schedule_at bytes ≡ Err faults.Repeat
StandsIn bytes faults.Limits = schedule_at bytes ≡ Err faults.Limits
StandsIn bytes faults.Arguments = schedule_at bytes ≡ Err faults.Arguments
-- the bytes alone don't say so
StandsIn bytes faults.Files = ⊥
-- it says nothing of the bytes
StandsIn bytes faults.OutOfMemory = ⊥

-- memory ran out, or this is so of the bytes
abbrev pub IsFaultOf : List ℕ → ScheduleFault → Type 0
IsFaultOf bytes fault = (fault ≡ faults.OutOfMemory) ⊎ StandsIn bytes fault
