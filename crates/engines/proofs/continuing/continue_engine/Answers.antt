use Rattle.std.proofs.Common.{inl, inr, refl, subst}
use Rattle.std.proofs.lemmas.Result.{err_from_is_err_and}
use Rattle.std.specs.Io.KnownBytes.{Appends}
use Rattle.model.specs.Devices.{AppendsFront}
use Rattle.engines.proofs.OpeningLemmas.{kept_is_uncontinued, of_no_schedule, part_is_uncontinued}
use Rattle.engines.proofs.continuing.continue_engine.Goals as goal

pub returns-in_err-opened-clause-faulty : goal.returns-in_err-opened-clause-faulty
returns-in_err-opened-clause-faulty g c =
    let p = err_from_is_err_and c.from_residual.result c.from_residual.ensures.1 in
    rw (p.1, p.2) (kept_is_uncontinued _ _ _ _ _ _ _ c.in_err-opened.ensures.kept)

pub returns-in_err-ran-clause-faulty : goal.returns-in_err-ran-clause-faulty
returns-in_err-ran-clause-faulty g c =
    let p = err_from_is_err_and c.from_residual-in_err-ran.result c.from_residual-in_err-ran.ensures.1 in
    rw (p.1, p.2) (inl (refl, refl))

pub returns-in_err-write_all-clause-faulty : goal.returns-in_err-write_all-clause-faulty
returns-in_err-write_all-clause-faulty g c =
    let p = err_from_is_err_and c.from_residual-in_err-write_all.result c.from_residual-in_err-write_all.ensures.1 in
    let opened = c.in_ok-opened.ensures.opened in
    let given = c.in_ok-opened.opened in
    let ran = c.in_ok-ran.ran in
    let run = c.in_ok-ran.ensures.run opened.0 c.args.conditions.now refl opened.3 in
    let contents = g.W.Sink.contents in
    let front = subst (AppendsFront (contents c.args.report.now) (contents c.write_all.new.self)) c.as_slice.ensures.value c.in_err-write_all.ensures.part in
    rw (p.1, p.2) (part_is_uncontinued _ _ _ _ _ _ _ _ _ (inr (_, _, (opened.0, _, opened.1, opened.2, run), front)))

pub returns-in_err-write_all-clause-schedule_first : goal.returns-in_err-write_all-clause-schedule_first
returns-in_err-write_all-clause-schedule_first g c =
    let p = err_from_is_err_and c.from_residual-in_err-write_all.result c.from_residual-in_err-write_all.ensures.1 in
    rw (p.1, p.2) (λ of_schedule. absurd (of_no_schedule c.in_err-write_all.field-0.0 of_schedule))

pub returns-clause-continued : goal.returns-clause-continued
returns-clause-continued g c =
    let opened = c.in_ok-opened.ensures.opened in
    let given = c.in_ok-opened.opened in
    let ran = c.in_ok-ran.ran in
    let run = c.in_ok-ran.ensures.run opened.0 c.args.conditions.now refl opened.3 in
    let contents = g.W.Sink.contents in
    let written = subst (Appends (contents c.args.report.now) (contents c.write_all.new.self)) c.as_slice.ensures.value c.in_ok-write_all.ensures.written in
    (_, (opened.0, _, opened.1, opened.2, run), written)
