-- A machine that replays a schedule, and what is told of it.
use Rattle.std.specs.Prelude.{◌≡◌, ℕ, List, [], Bool, if◌then◌else◌}
use Rattle.model.specs.declared.end.End.{End}
use Rattle.model.specs.declared.end.End.TheVariants as ends
use Rattle.model.specs.declared.limits.Limits.{Limits}
use Rattle.model.specs.declared.report.Report.{Report}
use Rattle.model.specs.Classes.{Program}
use Rattle.machine_state.specs.Refusals.{cause_of}
use Rattle.machine.specs.declared.machine.Stopped.{Stopped}
use Rattle.machine.specs.declared.machine.Stopped.TheVariants as stopped
use Rattle.machine.specs.Machines.{MachineOf}
use Rattle.machine.specs.machine_reports.Told.{AreQuietAt, Reports}
use Rattle.machine.specs.schedule_runs.Done.{HasDone}

-- under these limits, it has done no event of a run of accepted files with these trees
pub record IsOpened (trees : Program) (limits : Limits) (m : MachineOf) : Type 0 where
  pub files : List (List ℕ)
  pub limits_are : m.limits ≡ limits
  pub done : HasDone m files trees []

-- the end, by why no more events were done than so many, and by whether no thread may go on
abbrev pub end_of : Stopped → (done : ℕ) → (quiet : Bool) → End
end_of stopped.Most done quiet = if quiet then ends.Quiet else ends.Schedule
end_of stopped.NotEnabled done quiet = ends.NotEnabled done
end_of (stopped.Refused told) done quiet = ends.Refused done (cause_of told)

-- the report of what a machine shows after so many events, and the end
pub record Tells (trees : Program) (m : MachineOf) (done : ℕ) (why : Stopped) (r : Report) (end : End) : Type 0 where
  pub reports : Reports trees m.program m.shared m.limits.frames done r
  pub quiet : Bool
  pub quiet_is : AreQuietAt r.threads.items quiet
  pub end_is : end ≡ end_of why done quiet
