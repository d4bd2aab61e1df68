-- Schedules that are shrunk (own).
use Rattle.std.specs.Prelude.{◌≤◌, ℕ, List, Option, Some, None, length, map}
use Rattle.model.specs.declared.end.End.{End}
use Rattle.model.specs.declared.end.End.TheVariants as ends
use Rattle.model.specs.declared.event.Event.{Event}
use Rattle.model.specs.declared.event.ScheduleEntry.{ScheduleEntry}
use Rattle.model.specs.declared.limits.Limits.{Limits}
use Rattle.model.specs.declared.report.Report.{Report}
use Rattle.model.specs.Classes.{Program}
use Rattle.model.specs.Report.{end_state_of}
use Rattle.model.specs.Schedule.{events_of}
use Rattle.run_laws.specs.interleavings.Ends.{Outcome}
use Rattle.program_runs.specs.continued_runs.Continuing.{GoesOn}
use Rattle.program_runs.specs.declared.continued_runs.run.Continued.{Continued}
use Rattle.program_runs.specs.declared.continued_runs.run.Continued.TheVariants as continued
use Rattle.search.specs.declared.run_outcomes.wanted.Wanted.{Wanted}
use Rattle.search.specs.run_outcomes.Outcomes.{IsWanted}
use Rattle.shrinking.specs.Switches.{switches}

-- ---- one try: a replay that goes on

-- what was printed, and how the threads stand
abbrev pub outcome_in : Report → Outcome
outcome_in r = record { printed = r.printed.items; ends = map end_state_of r.threads.items }

-- no thread may go on, and the outcome is wanted
abbrev pub EndsWanted : Wanted → Report → End → Type 0
EndsWanted want r ends.Quiet = IsWanted want (outcome_in r)
EndsWanted want r ends.Budget = ⊥
EndsWanted want r (ends.Refused i cause) = ⊥
EndsWanted want r ends.Schedule = ⊥
EndsWanted want r (ends.NotEnabled i) = ⊥

-- all events of the schedule are done, and the run that goes on behind them ends so
abbrev pub ComesTo : Wanted → Continued → Type 0
ComesTo want (continued.Whole r) = EndsWanted want r.report r.end
ComesTo want (continued.Part r end) = ⊥

-- of which class files replays are, under which limits, with how many events at most, and which outcome is wanted
pub record TriesFor : Type 0 where
  pub trees : Program
  pub limits : Limits
  pub budget : ℕ
  pub want : Wanted

-- A replay of these events that goes on comes to it: with this budget, and with each greater one.
abbrev pub Has : TriesFor → List Event → Type 0
Has for events = (c : Continued) × ComesTo for.want c × ((budget : ℕ) → for.budget ≤ budget → GoesOn for.trees events for.limits budget c)

-- One with this budget doesn't, or the budget is less than the events.
abbrev pub Lacks : TriesFor → List Event → Type 0
Lacks for events = (c : Continued) × GoesOn for.trees events for.limits for.budget c × (length events ≤ for.budget → ComesTo for.want c → ⊥)

-- ---- what is answered

-- other events have what is wanted, too, and go from a thread to another one no more often
abbrev pub IsKept : (has : List Event → Type 0) → (old new : List Event) → Type 0
IsKept has old new = has new × (switches new ≤ switches old)

-- A schedule that has what is wanted, and goes from a thread to another one no more often than the given events; none,
-- where these have it not.
abbrev pub IsShrunk : (has lacks : List Event → Type 0) → (given : List Event) → Option (List ScheduleEntry) → Type 0
IsShrunk has lacks given (Some shrunk) = IsKept has given (events_of shrunk)
IsShrunk has lacks given None = lacks given
