use Rattle.std.proofs.Common.{◌∙◌, refl}
use Rattle.machine.proofs.machine_reports.Firsts.{reported}
use Rattle.machine.proofs.machine_reports.reports.report_of.Goals as goal

pub returns : goal.returns
returns c =
    reported c.args.classes.now c.args.program.now c.args.shared.now c.args.frames c.args.events _ (c.in_ok-from_slice.ensures.items ∙ c.deref.ensures.value) c.in_ok-thread_ends.ensures refl
