-- A run that goes on where a schedule ends (own; JVMS 2.6; JLS 17).
use Rattle.std.specs.Prelude.{◌≡◌, ◌⊎◌, ◌<◌, ◌++◌, ℕ, List, [], length}
use Rattle.model.specs.declared.end.End.{End}
use Rattle.model.specs.declared.end.End.TheVariants as ends
use Rattle.model.specs.declared.end.RunCause.TheVariants as causes
use Rattle.model.specs.declared.event.Event.{Event}
use Rattle.model.specs.declared.limits.Limits.{Limits}
use Rattle.model.specs.declared.report.Report.{Report}
use Rattle.model.specs.Classes.{Program}
use Rattle.model.specs.Schedule.{events_of}
use Rattle.machine.specs.machine_replay.Replays.{IsReplay}
use Rattle.program_runs.specs.worlds.Records.{IsRecordOf}
use Rattle.program_runs.specs.continued_runs.Turns.{AreInTurn}
use Rattle.program_runs.specs.declared.continued_runs.run.Continued.{Continued}
use Rattle.program_runs.specs.declared.continued_runs.run.Continued.TheVariants as continued

-- These events begin with those of the schedule: with all of them, or with as many as the budget; and those behind them are in turn.
pub record Continues (trees : Program) (schedule : List Event) (frames budget : ℕ) (events : List Event) : Type 0 where
  pub front : List Event
  pub left : List Event
  pub schedule_is : schedule ≡ front ++ left
  pub all : (left ≡ []) ⊎ (length front ≡ budget)
  pub more : List Event
  pub events_are : events ≡ front ++ more
  pub in_turn : AreInTurn trees frames front 0 more

-- a replay is cut short: an event is not enabled, or a limit refuses it
abbrev pub IsCut : End → Type 0
IsCut (ends.NotEnabled i) = Unit {0}
IsCut (ends.Refused i cause) = cause ≡ causes.Memory → ⊥
IsCut ends.Schedule = ⊥
IsCut ends.Quiet = ⊥
IsCut ends.Budget = ⊥

-- One of the schedule's events can't be done: the report is that of a replay which stops there, and the budget would have allowed it.
pub record IsCutShort (trees : Program) (schedule : List Event) (limits : Limits) (budget : ℕ) (r : Report) (end : End) : Type 0 where
  pub replay : IsReplay trees schedule limits r end
  pub few : length replay.front < budget
  pub cut : IsCut end

abbrev pub GoesOn : Program → (schedule : List Event) → Limits → (budget : ℕ) → Continued → Type 0
GoesOn trees schedule limits budget (continued.Whole r) = IsRecordOf trees limits budget r × Continues trees schedule limits.frames budget (events_of r.schedule)
GoesOn trees schedule limits budget (continued.Part r end) = IsCutShort trees schedule limits budget r end
