use Rattle.std.proofs.Common.{inr, subst}
use Rattle.std.proofs.lemmas.Result.{err_from_is_err_and}
use Rattle.std.specs.Io.KnownBytes.{Appends}
use Rattle.model.specs.Devices.{AppendsFront}
use Rattle.engines.proofs.OpeningLemmas.{of_no_schedule}
use Rattle.engines.proofs.RaceLemmas.{kept_is_unraced, part_is_unraced}
use Rattle.engines.proofs.racing.races_engine.Goals as goal

pub returns-in_err-opened-clause-faulty : goal.returns-in_err-opened-clause-faulty
returns-in_err-opened-clause-faulty g c =
    let p = err_from_is_err_and c.from_residual.result c.from_residual.ensures.1 in
    rw (p.1, p.2) (kept_is_unraced _ _ _ _ _ c.in_err-opened.ensures.kept)

pub returns-in_err-write_all-clause-faulty : goal.returns-in_err-write_all-clause-faulty
returns-in_err-write_all-clause-faulty g c =
    let p = err_from_is_err_and c.from_residual-in_err-write_all.result c.from_residual-in_err-write_all.ensures.1 in
    let contents = g.W.Sink.contents in
    let opened = c.in_ok-opened.ensures.opened in
    let written = subst (λ text. AppendsFront (contents c.args.output.now) (contents c.write_all.new.self) text) c.as_slice.ensures.value c.in_err-write_all.ensures.part in
    rw (p.1, p.2) (part_is_unraced _ _ _ _ _ _ (inr (_, _, (opened.0, _, opened.1, opened.2, c.in_ok-text.ensures _ _ opened.3), written)))

pub returns-in_err-write_all-clause-schedule_first : goal.returns-in_err-write_all-clause-schedule_first
returns-in_err-write_all-clause-schedule_first g c =
    let p = err_from_is_err_and c.from_residual-in_err-write_all.result c.from_residual-in_err-write_all.ensures.1 in
    rw (p.1, p.2) (λ of_schedule. absurd (of_no_schedule c.in_err-write_all.field-0.0 of_schedule))

pub returns-clause-raced : goal.returns-clause-raced
returns-clause-raced g c =
    let contents = g.W.Sink.contents in
    let opened = c.in_ok-opened.ensures.opened in
    let written = subst (λ text. Appends (contents c.args.output.now) (contents c.write_all.new.self) text) c.as_slice.ensures.value c.in_ok-write_all.ensures.written in
    (_, (opened.0, _, opened.1, opened.2, c.in_ok-text.ensures _ _ opened.3), written)
