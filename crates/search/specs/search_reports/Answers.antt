-- What a search over all schedules answers, with the report of the run that it finds (own; JLS 17).
use Rattle.std.specs.Prelude.{◌≡◌, ◌⊎◌, ℕ, Bool, List, Option, Some, IsTrue, IsFalse}
use Rattle.model.specs.declared.end.End.{End}
use Rattle.model.specs.declared.end.End.TheVariants as ends
use Rattle.model.specs.declared.event.Event.{Event}
use Rattle.model.specs.declared.event.ScheduleEntry.{ScheduleEntry}
use Rattle.model.specs.declared.limits.Limits.{Limits}
use Rattle.model.specs.declared.report.Report.{Report}
use Rattle.model.specs.Classes.{Program}
use Rattle.model.specs.Meaning.{meaning}
use Rattle.model.specs.Run.{run, is_quiet}
use Rattle.model.specs.Schedule.{events_of}
use Rattle.model.specs.State.{State}
use Rattle.machine.specs.machine_replay.Replays.{text_of}
use Rattle.search.specs.declared.kinds.Goal.{Goal}
use Rattle.search.specs.declared.searching.Verdict.{Verdict}
use Rattle.search.specs.GivingUp.{GivesUp}
use Rattle.search.specs.RacyStates.{IsRaceShown, TellsRace}
use Rattle.search.specs.Verdicts.{IsFoundBy, IsComplete, Says}
use Rattle.search.specs.declared.search_reports.answers.Answer.{Answer}
use Rattle.search.specs.declared.search_reports.answers.Answer.TheVariants as answer

-- the end of a run to a state: no thread may step there, or one may
abbrev pub EndsSo : Program → (frames : ℕ) → State → End → Type 0
EndsSo trees frames state ends.Quiet = IsTrue (is_quiet trees frames state)
EndsSo trees frames state ends.Schedule = IsFalse (is_quiet trees frames state)
EndsSo trees frames state end = ⊥

-- the report means these events, and the end says whether a thread may step behind them
pub record IsReportOf (trees : Program) (frames : ℕ) (events : List Event) (end : End) (r : Report) : Type 0 where
  pub means : meaning trees frames events end ≡ Some (text_of r end)
  pub ends : (state : State) → run trees frames events ≡ Some state → EndsSo trees frames state end

-- the schedule is found, with the report of the run that it is
abbrev pub IsRunTold : Program → Limits → List ScheduleEntry → Answer → Type 0
IsRunTold trees limits schedule a =
    (r : Report) × (end : End) × (a ≡ answer.Found schedule r end) × IsReportOf trees limits.frames (events_of schedule) end r

-- Found: the schedule is that of a run that is to be found, and the report is the run's. Complete: these are the outcomes of all runs that
-- end, and the kinds of the states that any run comes to, and none is to be found. A search gives up only where so many states are met as
-- may be, or where some run can't be gone on with, or where it may be stopped.
abbrev pub Answers : Program → Limits → Goal → (may_stop : Bool) → (most states : ℕ) → Answer → Type 0
Answers trees limits goal may_stop most states (answer.Found schedule r end) =
    IsFoundBy trees limits goal schedule × IsReportOf trees limits.frames (events_of schedule) end r
Answers trees limits goal may_stop most states (answer.Complete outcomes kinds) = IsComplete trees limits goal states outcomes kinds
Answers trees limits goal may_stop most states answer.GaveUp = IsTrue may_stop ⊎ GivesUp trees limits most states

-- if this is what the search says, whatever was to be found, and however many states may be met and were, that answers it
abbrev pub IsAnswerTo : Program → Limits → Verdict → Answer → Type 0
IsAnswerTo trees limits v a =
    (goal : Goal) (may_stop : Bool) (most states : ℕ) → Says trees limits goal may_stop most states v
    → Answers trees limits goal may_stop most states a

-- a schedule to a racy state beside a complete answer, where that tells a race
abbrev pub TellsRaceOf : Program → Limits → Answer → Option (List ScheduleEntry) → Type 0
TellsRaceOf trees limits (answer.Complete outcomes kinds) race = IsRaceShown trees limits kinds.race race
TellsRaceOf trees limits a race = Unit {0}

-- what is told beside what the search says is told beside the answer
abbrev pub IsRaceKept : Program → Limits → Verdict → Answer → Type 0
IsRaceKept trees limits v a = (race : Option (List ScheduleEntry)) → TellsRace trees limits v race → TellsRaceOf trees limits a race
