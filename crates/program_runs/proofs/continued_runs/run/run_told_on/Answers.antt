use Rattle.std.specs.Arc.{arc_value}
use Rattle.model.specs.Schedule.{events_of}
use Rattle.program_runs.proofs.continued_runs.Continuing.{cut, whole_of}
use Rattle.program_runs.proofs.continued_runs.run.run_told_on.Goals as goal

pub returns-in-Most : goal.returns-in-Most
returns-in-Most g c =
    whole_of (arc_value c.args.verified) c.args.limits c.args.budget c.in_ok-world.world c.in_ok-world.ensures (events_of c.args.schedule.now) c.in_ok-why.why c.in-Most.is
    c.follow.new.world c.in_ok-why.ensures c.take_turns.new.world c.take_turns.ensures c.in_ok-into_recorded.field-0 c.in_ok-into_recorded.ensures.of c.in_ok-into_recorded.ensures.keeps

pub returns : goal.returns
returns g c =
    cut c.reports_of_words.ensures.holds c.no_event_is_wrong.ensures.holds (arc_value c.args.verified) c.args.limits c.args.budget c.in_ok-world.world c.in_ok-world.ensures
    (events_of c.args.schedule.now) c.in_ok-why.why c.follow.new.world c.in_ok-why.ensures c.in_default.not-Most c.in_ok-report.report c.in_ok-report.end c.in_ok-report.ensures
