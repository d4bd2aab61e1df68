-- Events that are recorded (own): their list, and entries for runs of equal ones.
use Rattle.std.specs.Prelude.{◌≡◌, ◌<◌, ◌^◌, ℕ, List, length}
use Rattle.model.specs.declared.event.Event.{Event}
use Rattle.model.specs.declared.event.ScheduleEntry.{ScheduleEntry}
use Rattle.model.specs.Schedule.{events_of}
use Rattle.schedule.specs.Joined.{AreRuns}

-- the events, and for how many more runs of equal ones there is room
pub record RecordedOf : Type 0 where
  pub events : List Event
  pub room : ℕ

pub record IsRecord (entries : List ScheduleEntry) (total : ℕ) : Type 0 where
  pub runs : AreRuns entries
  pub total_is : total ≡ length (events_of entries)
  pub most : total < 2 ^ 32
