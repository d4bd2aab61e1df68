use Rattle.std.proofs.Common.{◌≡◌, inr, subst}
use Rattle.std.proofs.lemmas.Result.{err_from_is_err_and}
use Rattle.model.specs.Devices.{AppendsFront}
use Rattle.schedule.specs.schedule_text.Text.{SpellsSchedule}
use Rattle.schedule.specs.schedule_text.Printing.{printed_schedule}
use Rattle.engines.proofs.OpeningLemmas.{part_is_unprinted}
use Rattle.engines.proofs.transcribing.schedule_engine.Goals as goal

pub returns-in_err-schedule-clause-faulty : goal.returns-in_err-schedule-clause-faulty
returns-in_err-schedule-clause-faulty g c =
    let p = err_from_is_err_and c.from_residual.result c.from_residual.ensures.1 in
    rw (p.1, p.2) (c.in_err-schedule.ensures.unprinted _)

pub returns-in_err-write_all-clause-faulty : goal.returns-in_err-write_all-clause-faulty
returns-in_err-write_all-clause-faulty g c =
    let p = err_from_is_err_and c.from_residual-in_err-write_all.result c.from_residual-in_err-write_all.ensures.1 in
    let contents = g.W.Sink.contents in
    let read = c.in_ok-schedule.ensures.read in
    let spells = subst (λ recorded. SpellsSchedule c.in_ok-printed.printed.items recorded c.in_ok-schedule.schedule) c.as_ref.ensures.value c.in_ok-printed.ensures.spells in
    let printed = subst (λ recorded. c.in_ok-printed.printed.items ≡ printed_schedule recorded c.in_ok-schedule.schedule) c.as_ref.ensures.value c.in_ok-printed.ensures.printed in
    let front = subst (AppendsFront (contents c.args.text.now) (contents c.write_all.new.self)) c.as_slice.ensures.value c.in_err-write_all.ensures.part in
    rw (p.1, p.2) (part_is_unprinted _ _ _ _ (inr (_, (read.0, _, _, read.1, read.3, spells, printed), front)))
