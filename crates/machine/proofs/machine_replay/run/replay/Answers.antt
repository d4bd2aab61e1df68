use Rattle.std.specs.Arc.{arc_value}
use Rattle.model.specs.Schedule.{events_of}
use Rattle.machine.proofs.machine_replay.Opened.{is_opened, of_accepted}
use Rattle.machine.proofs.machine_replay.Replayed.{replay_if}
use Rattle.machine.proofs.machine_replay.run.replay.Goals as goal

pub open-requires : goal.open-requires
open-requires c = of_accepted c.args.classes.now (arc_value c.args.program) c.requires

pub returns : goal.returns
returns c =
    let trees = c.args.classes.now in
    let opened = is_opened c.runs_are_opened.ensures.holds trees (arc_value c.args.program) c.args.limits c.in_ok-machine.machine c.requires c.in_ok-machine.ensures in
    replay_if c.reports_of_words.ensures.holds c.no_event_is_wrong.ensures.holds trees c.args.limits c.in_ok-machine.machine c.run_schedule-done.new.machine (events_of c.args.schedule.now)
    c.run_schedule-done.result opened c.run_schedule-done.ensures c.report_after.result c.report_after.ensures
