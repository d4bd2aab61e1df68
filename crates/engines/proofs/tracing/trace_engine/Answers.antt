use Rattle.std.proofs.Common.{inr}
use Rattle.std.proofs.lemmas.Result.{err_from_is_err_and}
use Rattle.engines.proofs.OpeningLemmas.{of_no_schedule}
use Rattle.engines.proofs.TraceLemmas.{kept_is_untraced, part_is_untraced}
use Rattle.engines.proofs.tracing.trace_engine.Goals as goal

pub returns-in_err-opened-clause-faulty : goal.returns-in_err-opened-clause-faulty
returns-in_err-opened-clause-faulty g c =
    let p = err_from_is_err_and c.from_residual.result c.from_residual.ensures.1 in
    rw (p.1, p.2) (kept_is_untraced _ _ _ _ _ _ c.in_err-opened.ensures.kept)

pub returns-in_err-status-clause-faulty : goal.returns-in_err-status-clause-faulty
returns-in_err-status-clause-faulty g c =
    let p = err_from_is_err_and c.from_residual-in_err-status.result c.from_residual-in_err-status.ensures.1 in
    let opened = c.in_ok-opened.ensures.opened in
    rw (p.1, p.2) (part_is_untraced _ _ _ _ _ _ _ (inr (opened.0, _, opened.1, opened.2, c.in_err-status.ensures.part opened.0 _ opened.3)))

pub returns-in_err-status-clause-schedule_first : goal.returns-in_err-status-clause-schedule_first
returns-in_err-status-clause-schedule_first g c =
    let p = err_from_is_err_and c.from_residual-in_err-status.result c.from_residual-in_err-status.ensures.1 in
    rw (p.1, p.2) (λ of_schedule. absurd (of_no_schedule c.in_err-status.field-0.0 of_schedule))

pub returns-clause-traced : goal.returns-clause-traced
returns-clause-traced g c =
    let opened = c.in_ok-opened.ensures.opened in
    let traced = c.in_ok-status.ensures.traced opened.0 _ opened.3 in
    (traced.0, (opened.0, _, opened.1, opened.2, traced.1), traced.2)
