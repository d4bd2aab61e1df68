use Rattle.std.proofs.Common.{◌∙◌}
use Rattle.machine.proofs.machine_replay.Telling.{tells}
use Rattle.machine.proofs.machine_replay.run.report_after.Goals as goal

pub returns : goal.returns
returns c =
    tells c.args.classes.now c.args.machine.now c.deref.result.now c.shared.result.now c.limits-frames.result c.args.done c.args.why c.in_ok-report.report c.end_of-end.result c.is_quiet.result
    c.deref-2.result.now (c.deref.ensures ∙ c.program.ensures) c.shared.ensures.same c.limits-frames.ensures c.in_ok-report.ensures c.deref-2.ensures.value c.is_quiet.ensures.quiet c.end_of-end.ensures
