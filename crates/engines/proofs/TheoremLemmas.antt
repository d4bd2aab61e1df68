-- What the machine, runs and searches promise, in the words of the theorem.
use Rattle.std.proofs.Common.{◌≡◌, ◌⊎◌, ℕ, List, [], ◌∷◌, Some, inl, inr, refl}
use Rattle.model.specs.declared.end.End.{End}
use Rattle.model.specs.declared.end.End.TheVariants as ends
use Rattle.model.specs.declared.end.RunCause.{RunCause}
use Rattle.model.specs.declared.end.RunCause.TheVariants as causes
use Rattle.model.specs.declared.event.Event.{Event}
use Rattle.model.specs.declared.limits.Limits.{Limits}
use Rattle.model.specs.declared.report.Report.{Report}
use Rattle.model.specs.Classes.{Program}
use Rattle.model.specs.LimitStands.{bounds_of}
use Rattle.model.specs.State.{State}
use Rattle.machine.specs.machine_replay.Replays as machine
use Rattle.program_runs.specs.recorded_replays.Same as same
use Rattle.program_runs.specs.worlds.Records as records
use Rattle.program_runs.specs.worlds.Worlds as worlds
use Rattle.engines.specs.Theorem.{DoRecordsReplay, EndFits, IsRecordOf, IsRefusedFor, IsReplay, MayWantMemory, RunEndFits, ShowTheSame, WantsMemory, end_of_replay}

-- ---- why an event is refused

refused_for : (trees : Program) (limits : Limits) (done : List Event) (event : Event) (cause : RunCause)
    → machine.IsRefusedFor trees (bounds_of limits) done event cause → IsRefusedFor trees limits done event cause
refused_for trees limits done event causes.Objects is = is
refused_for trees limits done event causes.Cells is = is
refused_for trees limits done event causes.Monitors is = is
refused_for trees limits done event causes.Threads is = is
refused_for trees limits done event causes.LockCount is = is
refused_for trees limits done event causes.Memory is = is

wants_memory : (trees : Program) (limits : Limits) (done : List Event) (event : Event) (cause : RunCause)
    → machine.MayWantMemory trees limits.frames done event cause → MayWantMemory trees limits done event cause
wants_memory trees limits done event causes.Objects is = is
wants_memory trees limits done event causes.Cells is = is
wants_memory trees limits done event causes.Monitors is = is
wants_memory trees limits done event causes.Threads is = is
wants_memory trees limits done event causes.LockCount is = is
wants_memory trees limits done event causes.Memory is = is

refused_below : (trees : Program) (limits : Limits) (done : List Event) (event : Event) (cause : RunCause)
    → IsRefusedFor trees limits done event cause → machine.IsRefusedFor trees (bounds_of limits) done event cause
refused_below trees limits done event causes.Objects is = is
refused_below trees limits done event causes.Cells is = is
refused_below trees limits done event causes.Monitors is = is
refused_below trees limits done event causes.Threads is = is
refused_below trees limits done event causes.LockCount is = is
refused_below trees limits done event causes.Memory is = is

memory_below : (trees : Program) (limits : Limits) (done : List Event) (event : Event) (cause : RunCause)
    → MayWantMemory trees limits done event cause → machine.MayWantMemory trees limits.frames done event cause
memory_below trees limits done event causes.Objects is = is
memory_below trees limits done event causes.Cells is = is
memory_below trees limits done event causes.Monitors is = is
memory_below trees limits done event causes.Threads is = is
memory_below trees limits done event causes.LockCount is = is
memory_below trees limits done event causes.Memory is = is

-- ---- replays

pub end_fits : (trees : Program) (limits : Limits) (state : State) (done left : List Event) (end : End)
    → machine.EndFits trees (bounds_of limits) state done left end → EndFits trees limits done left state end
end_fits trees limits state done [] ends.Schedule is = is.1
end_fits trees limits state done (next ∷ left) ends.Schedule is = absurd (let h : next ∷ left ≡ [] = is.0 in cc)
end_fits trees limits state done [] ends.Quiet is = is.1
end_fits trees limits state done (next ∷ left) ends.Quiet is = absurd (let h : next ∷ left ≡ [] = is.0 in cc)
end_fits trees limits state done [] (ends.NotEnabled i) is = absurd is.1
end_fits trees limits state done (next ∷ left) (ends.NotEnabled i) is = is
end_fits trees limits state done [] (ends.Refused i cause) is = absurd is.1
end_fits trees limits state done (next ∷ left) (ends.Refused i cause) is =
    (is.0, is.1.0, refused_for trees limits done next cause is.1.1, wants_memory trees limits done next cause is.1.2)
end_fits trees limits state done left ends.Budget is = absurd is

end_below : (trees : Program) (limits : Limits) (state : State) (done left : List Event) (end : End)
    → EndFits trees limits done left state end → machine.EndFits trees (bounds_of limits) state done left end
end_below trees limits state done [] ends.Schedule is = (refl, is)
end_below trees limits state done (next ∷ left) ends.Schedule is = absurd is
end_below trees limits state done [] ends.Quiet is = (refl, is)
end_below trees limits state done (next ∷ left) ends.Quiet is = absurd is
end_below trees limits state done [] (ends.NotEnabled i) is = absurd is
end_below trees limits state done (next ∷ left) (ends.NotEnabled i) is = is
end_below trees limits state done [] (ends.Refused i cause) is = absurd is
end_below trees limits state done (next ∷ left) (ends.Refused i cause) is =
    (is.0, (is.1, refused_below trees limits done next cause is.2, memory_below trees limits done next cause is.3))
end_below trees limits state done [] ends.Budget is = absurd is
end_below trees limits state done (next ∷ left) ends.Budget is = absurd is

pub replay_is : (trees : Program) (events : List Event) (limits : Limits) (r : Report) (end : End)
    → machine.IsReplay trees events limits r end → IsReplay trees events limits r end
replay_is trees events limits r end is = record {
  done = is.front;
  left = is.left;
  events_are = is.events_are;
  reports = record { state = is.state; reached = is.reached; within = is.within; printed = is.printed; threads = is.threads; count = is.count; means = is.means };
  ended = end_fits trees limits is.state is.front is.left end is.ended;
  found = is.found;
}

replay_below : (trees : Program) (events : List Event) (limits : Limits) (r : Report) (end : End)
    → IsReplay trees events limits r end → machine.IsReplay trees events limits r end
replay_below trees events limits r end is = record {
  front = is.done;
  left = is.left;
  events_are = is.events_are;
  state = is.reports.state;
  reached = is.reports.reached;
  within = is.reports.within;
  printed = is.reports.printed;
  threads = is.reports.threads;
  count = is.reports.count;
  means = is.reports.means;
  ended = end_below trees limits is.reports.state is.done is.left end is.ended;
  found = is.found;
}

-- ---- runs

run_end_fits : (trees : Program) (limits : Limits) (state : State) (budget : ℕ) (done : List Event) (end : End)
    → worlds.EndFits trees (bounds_of limits) state budget done (Some end) → RunEndFits trees limits budget done state end
run_end_fits trees limits state budget done ends.Quiet is = is
run_end_fits trees limits state budget done ends.Budget is = is
run_end_fits trees limits state budget done (ends.Refused i cause) is =
    (is.0, is.1, (is.2.0, is.2.1, refused_for trees limits done is.2.0 cause is.2.2))
run_end_fits trees limits state budget done ends.Schedule is = is
run_end_fits trees limits state budget done (ends.NotEnabled i) is = is

pub record_is : (trees : Program) (limits : Limits) (budget : ℕ) (events : List Event) (r : Report) (end : End)
    → records.IsRecorded trees limits budget events r end → IsRecordOf trees limits budget events r end
record_is trees limits budget events r end is = record {
  reports = record { state = is.state; reached = is.reached; within = is.within; printed = is.printed; threads = is.threads; count = is.count; means = is.means };
  few = is.few;
  ended = run_end_fits trees limits is.state budget events end is.ended;
  found = is.found;
}

run_end_below : (trees : Program) (limits : Limits) (state : State) (budget : ℕ) (done : List Event) (end : End)
    → RunEndFits trees limits budget done state end → worlds.EndFits trees (bounds_of limits) state budget done (Some end)
run_end_below trees limits state budget done ends.Quiet is = is
run_end_below trees limits state budget done ends.Budget is = is
run_end_below trees limits state budget done (ends.Refused i cause) is =
    (is.0, is.1, (is.2.0, is.2.1, refused_below trees limits done is.2.0 cause is.2.2))
run_end_below trees limits state budget done ends.Schedule is = is
run_end_below trees limits state budget done (ends.NotEnabled i) is = is

record_below : (trees : Program) (limits : Limits) (budget : ℕ) (events : List Event) (r : Report) (end : End)
    → IsRecordOf trees limits budget events r end → records.IsRecorded trees limits budget events r end
record_below trees limits budget events r end is = record {
  state = is.reports.state;
  reached = is.reports.reached;
  within = is.reports.within;
  few = is.few;
  printed = is.reports.printed;
  threads = is.reports.threads;
  count = is.reports.count;
  means = is.reports.means;
  ended = run_end_below trees limits is.reports.state budget events end is.ended;
  found = is.found;
}

-- ---- replays of records

same_end : (end its_end : End) → its_end ≡ same.end_of_replay end → its_end ≡ end_of_replay end
same_end ends.Quiet its_end is = is
same_end ends.Schedule its_end is = is
same_end (ends.NotEnabled i) its_end is = is
same_end (ends.Refused i cause) its_end is = is
same_end ends.Budget its_end is = is

same_shown : (replayed recorded : Report) (end its_end : End)
    → same.WantsMemory its_end ⊎ (same.ShowTheSame replayed recorded × (its_end ≡ same.end_of_replay end))
    → WantsMemory its_end ⊎ (ShowTheSame replayed recorded × (its_end ≡ end_of_replay end))
same_shown replayed recorded end its_end (inl wants) = inl wants
same_shown replayed recorded end its_end (inr shows) =
    inr (record { printed = shows.0.printed; threads = shows.0.threads; count = shows.0.count }, same_end end its_end shows.1)

pub records_replay : same.DoRecordsReplay → DoRecordsReplay
records_replay holds files trees accepted limits budget events recorded end record_of replayed its_end replay_of =
    same_shown replayed recorded end its_end
    (holds files trees accepted limits budget events recorded end (record_below trees limits budget events recorded end record_of)
    replayed its_end (replay_below trees events limits replayed its_end replay_of))
