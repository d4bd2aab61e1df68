use Rattle.std.proofs.Common.{List, Some, subst, ℕ}
use Rattle.std.proofs.lemmas.Result.{err_from_is_err_and}
use Rattle.std.specs.Io.KnownBytes.{Appends}
use Rattle.model.specs.Classes.{Program}
use Rattle.model.specs.Schedule.{events_of}
use Rattle.program_runs.specs.traced_runs.Traces.{IsTrace}
use Rattle.engines.proofs.PageLemmas.{is_memory, made_lines}
use Rattle.engines.proofs.paging.traced_lines.Goals as goal

pub returns-in_err-report-clause-memory : goal.returns-in_err-report-clause-memory
returns-in_err-report-clause-memory c =
    let p = err_from_is_err_and c.from_residual.result c.from_residual.ensures.1 in
    rw (p.1, p.2) (is_memory c.in_err-report.field-0.0 c.in_err-report.ensures.counted)

pub returns-clause-traced : goal.returns-clause-traced
returns-clause-traced c =
    let given = c.args.opened.now in
    let old = c.new-lines.result.bytes.items in
    let new = c.trace.new.output.bytes.items in
    let traced = subst (λ (t : Program). (lines : List ℕ) × IsTrace t (events_of given.schedule) given.limits c.args.window c.in_ok-report.report c.in_ok-report.end lines
    × Appends (Some old) (Some new) lines) c.deref.ensures c.in_ok-report.ensures.traced in
    made_lines _ _ _ _ _ _ old new c.new-lines.ensures traced
