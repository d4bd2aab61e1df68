-- How a world comes to an end, and what is told of it then (own).
use Rattle.std.specs.Prelude.{◌≡◌, Some, length}
use Rattle.model.specs.declared.end.End.{End}
use Rattle.model.specs.declared.report.Report.{Report}
use Rattle.model.specs.Schedule.{events_of}
use Rattle.machine.specs.machine_reports.Told.{Reports}
use Rattle.program_runs.specs.declared.worlds.records.Recorded.{Recorded}
use Rattle.program_runs.specs.worlds.Worlds.{WorldOf, IsOfSame}
use Rattle.program_runs.specs.worlds.Records.{IsRecordOf}

-- by some turns: files, limits and budget stay; and where there was an end, nothing changes
pub record HasTakenTurns (old new : WorldOf) : Type 0 where
  pub same : IsOfSame old new
  pub kept : (end : End) → old.end ≡ Some end → new ≡ old

-- the report of what its machine shows
abbrev pub IsReportOn : WorldOf → Report → Type 0
IsReportOn w = Reports w.trees w.machine.program w.machine.shared w.machine.limits.frames (length w.events)

-- the record of its events, where it has ended so
pub record IsRecordAt (w : WorldOf) (end : End) (r : Recorded) : Type 0 where
  pub is : IsRecordOf w.trees w.machine.limits w.budget r
  pub end_is : r.end ≡ end
  pub events : events_of r.schedule ≡ w.events
