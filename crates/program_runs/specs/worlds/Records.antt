-- What a run that has ended is recorded as (own; JVMS 2.5, 2.6; JLS 17).
use Rattle.std.specs.Prelude.{◌≡◌, ◌≤◌, ◌++◌, ℕ, Bool, List, [], ◌∷◌, Some, length, map, IsTrue}
use Rattle.std.specs.Arc.{arc_value}
use Rattle.model.specs.declared.end.End.{End}
use Rattle.model.specs.declared.event.Event.{Event}
use Rattle.model.specs.declared.limits.Limits.{Limits}
use Rattle.model.specs.declared.report.Report.{Report}
use Rattle.model.specs.Classes.{Program}
use Rattle.model.specs.LimitStands.{bounds_of, within_limits}
use Rattle.model.specs.Meaning.{meaning, thread_ends}
use Rattle.model.specs.Report.{end_state_of}
use Rattle.model.specs.Run.{run}
use Rattle.model.specs.Schedule.{events_of}
use Rattle.model.specs.State.{State}
use Rattle.machine.specs.machine_replay.Replays.{AreOperandsFound, text_of}
use Rattle.schedule.specs.Joined.{AreJoined}
use Rattle.program_runs.specs.declared.worlds.records.Recorded.{Recorded}
use Rattle.program_runs.specs.worlds.Worlds.{WorldOf, EndFits, IsSpent}

-- The events lead to a state, and at none of them a limit stood; they are no more than the budget. The report is their meaning, and
-- the end says why they are no more. Neither one of the events nor any that could be the next one meets an operand of a wrong kind.
pub record IsRecorded (trees : Program) (limits : Limits) (budget : ℕ) (events : List Event) (r : Report) (end : End) : Type 0 where
  pub state : State
  pub reached : run trees limits.frames events ≡ Some state
  pub within : IsTrue (within_limits trees (bounds_of limits) events)
  pub few : length events ≤ budget
  pub printed : r.printed.items ≡ state.world.printed
  pub threads : map end_state_of r.threads.items ≡ thread_ends trees limits.frames state
  pub count : r.events ≡ length events
  pub means : meaning trees limits.frames events end ≡ Some (text_of r end)
  pub ended : EndFits trees (bounds_of limits) state budget events (Some end)
  pub found : (next : Event) → AreOperandsFound trees limits.frames (events ++ next ∷ [])

-- the record of a run of these class files, under these limits and with this budget: its events are in as few entries as they can be
abbrev pub IsRecordOf : Program → Limits → (budget : ℕ) → Recorded → Type 0
IsRecordOf trees limits budget r = (arc_value r.verified ≡ trees) × (r.limits ≡ limits) × AreJoined r.schedule × IsRecorded trees limits budget (events_of r.schedule) r.report r.end

-- the same of a run that may be stopped: it is the record of one with what is spent of the budget
abbrev pub IsRecordWithin : (may_stop : Bool) → Program → Limits → (budget : ℕ) → Recorded → Type 0
IsRecordWithin may_stop trees limits budget r = (spent : ℕ) × IsSpent may_stop budget spent × IsRecordOf trees limits spent r

-- where a world had an end, the record has that end and its events
abbrev pub Keeps : WorldOf → Recorded → Type 0
Keeps w r = (end : End) → w.end ≡ Some end → (r.end ≡ end) × (events_of r.schedule ≡ w.events)
