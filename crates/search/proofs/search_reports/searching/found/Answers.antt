use Rattle.std.proofs.Common.{refl}
use Rattle.model.specs.declared.end.End.TheVariants as ends
use Rattle.model.specs.Schedule.{events_of}
use Rattle.search.proofs.search_reports.Reported.{moving_reported, quiet_reported}
use Rattle.search.proofs.search_reports.searching.found.Goals as goal

pub returns-in-Quiet : goal.returns-in-Quiet
returns-in-Quiet c =
    (c.in_ok-report.report, ends.Quiet, refl, quiet_reported c.args.classes.now (events_of c.args.schedule) c.args.limits c.in_ok-report.report c.in_ok-report.end c.in_ok-report.ensures c.in-Quiet.is)

pub returns-in-Schedule : goal.returns-in-Schedule
returns-in-Schedule c =
    (c.in_ok-report.report, ends.Schedule, refl, moving_reported c.args.classes.now (events_of c.args.schedule) c.args.limits c.in_ok-report.report c.in_ok-report.end c.in_ok-report.ensures c.in-Schedule.is)
