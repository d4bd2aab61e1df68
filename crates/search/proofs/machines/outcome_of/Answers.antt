use Rattle.std.proofs.Common.{◌∙◌, subst}
use Rattle.machine.specs.machine_reports.Told.{AreQuietAt}
use Rattle.search.proofs.Shown.{reports_at, tells_quiet, tells_none}
use Rattle.search.proofs.machines.outcome_of.Goals as goal

pub returns-then-is_quiet : goal.returns-then-is_quiet
returns-then-is_quiet c =
    tells_quiet c.reports_of_words.ensures.holds c.args.classes.now c.args.machine.now c.in_ok-report.report
    (reports_at c.args.classes.now c.args.machine.now c.deref.result.now c.shared.result.now c.limits-frames.result c.in_ok-report.report (c.deref.ensures ∙ c.program.ensures) c.shared.ensures.same
    c.limits-frames.ensures c.in_ok-report.ensures)
    c.is_quiet.result (subst (λ l. AreQuietAt l c.is_quiet.result) c.deref-2.ensures.value c.is_quiet.ensures.quiet) c.if-is_quiet.true

pub returns-else-is_quiet : goal.returns-else-is_quiet
returns-else-is_quiet c =
    tells_none c.reports_of_words.ensures.holds c.args.classes.now c.args.machine.now c.in_ok-report.report
    (reports_at c.args.classes.now c.args.machine.now c.deref.result.now c.shared.result.now c.limits-frames.result c.in_ok-report.report (c.deref.ensures ∙ c.program.ensures) c.shared.ensures.same
    c.limits-frames.ensures c.in_ok-report.ensures)
    c.is_quiet.result (subst (λ l. AreQuietAt l c.is_quiet.result) c.deref-2.ensures.value c.is_quiet.ensures.quiet) c.if-is_quiet.false
