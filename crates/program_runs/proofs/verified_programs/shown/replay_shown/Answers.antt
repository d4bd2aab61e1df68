use Rattle.std.proofs.Common.{◌∙◌, subst}
use Rattle.std.specs.Prelude.{IfOk}
use Rattle.model.specs.Classes.{Program}
use Rattle.model.specs.Schedule.{events_of}
use Rattle.machine.proofs.machine_replay.Replayed.{replay_if}
use Rattle.machine.specs.machine_replay.Shown.{Tells}
use Rattle.program_runs.proofs.verified_programs.shown.replay_shown.Goals as goal

pub returns : goal.returns
returns g c =
    replay_if c.reports_of_words.ensures.holds c.no_event_is_wrong.ensures.holds c.args.verified.now c.args.limits c.in_ok-machine.machine c.run_shown-done.new.machine (events_of c.args.schedule.now)
    c.run_shown-done.result c.in_ok-machine.ensures c.run_shown-done.ensures c.report_after.result
    (subst (λ (t : Program). IfOk c.report_after.result (λ r. Tells t c.run_shown-done.new.machine c.run_shown-done.result.0 c.run_shown-done.result.1 r.0 r.1)) (c.set.ensures.same ∙ c.linked.ensures.same) c.report_after.ensures)
