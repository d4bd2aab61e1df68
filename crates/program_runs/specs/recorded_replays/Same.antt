-- A recorded run, and a replay of its events over the same class files within the same limits (own; JVMS 2.6; JLS 17).
use Rattle.std.specs.Prelude.{◌≡◌, ◌⊎◌, ℕ, List, map}
use Rattle.model.specs.declared.end.End.{End}
use Rattle.model.specs.declared.end.End.TheVariants as ends
use Rattle.model.specs.declared.end.RunCause.TheVariants as cause
use Rattle.model.specs.declared.event.Event.{Event}
use Rattle.model.specs.declared.limits.Limits.{Limits}
use Rattle.model.specs.declared.report.Report.{Report}
use Rattle.model.specs.Accepted.{IsAccepted}
use Rattle.model.specs.Classes.{Program}
use Rattle.model.specs.Report.{end_state_of}
use Rattle.machine.specs.machine_replay.Replays.{IsReplay}
use Rattle.program_runs.specs.worlds.Records.{IsRecorded}

-- both print the same, their threads end alike, and they did as many events
pub record ShowTheSame (one other : Report) : Type 0 where
  pub printed : one.printed.items ≡ other.printed.items
  pub threads : map end_state_of one.threads.items ≡ map end_state_of other.threads.items
  pub count : one.events ≡ other.events

-- how a replay ends that did all events of a run with this end: no thread may go on, or some may and the schedule has no more
abbrev pub end_of_replay : End → End
end_of_replay ends.Quiet = ends.Quiet
end_of_replay ends.Schedule = ends.Schedule
end_of_replay (ends.NotEnabled i) = ends.Schedule
end_of_replay (ends.Refused i why) = ends.Schedule
end_of_replay ends.Budget = ends.Schedule

-- it did not do all of them, as there was no memory for the next
abbrev pub WantsMemory : End → Type 0
WantsMemory end = (i : ℕ) × (end ≡ ends.Refused i cause.Memory)

-- A replay of recorded events shows what the run showed, or wants memory.
abbrev pub DoRecordsReplay : Type 0
DoRecordsReplay =
    (files : List (List ℕ)) (trees : Program) → IsAccepted files trees → (limits : Limits) (budget : ℕ) (events : List Event)
    → (recorded : Report) (end : End) → IsRecorded trees limits budget events recorded end
    → (replayed : Report) (its_end : End) → IsReplay trees events limits replayed its_end
    → WantsMemory its_end ⊎ (ShowTheSame replayed recorded × (its_end ≡ end_of_replay end))
