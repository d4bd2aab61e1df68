use Rattle.std.proofs.Common.{inr, refl}
use Rattle.std.proofs.lemmas.Result.{err_from_is_err_and}
use Rattle.engines.proofs.OpeningLemmas.{of_no_schedule}
use Rattle.engines.proofs.PageLemmas.{kept_is_unpaged, part_is_unpaged}
use Rattle.engines.proofs.paging.page_engine.Goals as goal

pub returns-in_err-opened-clause-faulty : goal.returns-in_err-opened-clause-faulty
returns-in_err-opened-clause-faulty g c =
    let p = err_from_is_err_and c.from_residual.result c.from_residual.ensures.1 in
    rw (p.1, p.2) (kept_is_unpaged _ _ _ _ _ _ c.in_err-opened.ensures.kept)

pub returns-in_err-made-clause-faulty : goal.returns-in_err-made-clause-faulty
returns-in_err-made-clause-faulty g c =
    let p = err_from_is_err_and c.from_residual-in_err-made.result c.from_residual-in_err-made.ensures.1 in
    let opened = c.in_ok-opened.ensures.opened in
    rw (p.1, p.2) (part_is_unpaged _ _ _ _ _ _ _ (inr (opened.0, _, opened.1, opened.2, c.in_err-made.ensures.part opened.0 _ opened.3)))

pub returns-in_err-made-clause-schedule_first : goal.returns-in_err-made-clause-schedule_first
returns-in_err-made-clause-schedule_first g c =
    let p = err_from_is_err_and c.from_residual-in_err-made.result c.from_residual-in_err-made.ensures.1 in
    rw (p.1, p.2) (λ of_schedule. absurd (of_no_schedule c.in_err-made.field-0.0 of_schedule))

pub returns-clause-paged : goal.returns-clause-paged
returns-clause-paged g c =
    let opened = c.in_ok-opened.ensures.opened in
    let paged = c.in_ok-made.ensures.paged opened.0 _ opened.3 in
    (paged.0, c.in_ok-made.made, refl, (opened.0, _, opened.1, opened.2, paged.1), paged.2)
