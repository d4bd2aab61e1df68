use Rattle.std.proofs.Common.{◌≡◌, inr, rules, subst}
use Rattle.std.proofs.lemmas.Result.{err_from_is_err_and}
use Rattle.model.specs.Devices.{AppendsFront}
use Rattle.schedule.specs.Files.{schedule}
use Rattle.schedule.specs.schedule_text.Text.{SpellsSchedule}
use Rattle.engines.proofs.OpeningLemmas.{part_is_untranscribed}
use Rattle.engines.specs.Transcriptions.{told_as}
use Rattle.engines.proofs.transcribing.write_schedule_engine.Goals as goal

pub returns-in_err-read-clause-faulty : goal.returns-in_err-read-clause-faulty
returns-in_err-read-clause-faulty g c =
    let p = err_from_is_err_and c.from_residual.result c.from_residual.ensures.1 in
    rw (p.1, p.2) (c.in_err-read.ensures.faulty c.args.as_version _)

pub returns-in_err-write_all-clause-faulty : goal.returns-in_err-write_all-clause-faulty
returns-in_err-write_all-clause-faulty g c =
    let p = err_from_is_err_and c.from_residual-in_err-write_all.result c.from_residual-in_err-write_all.ensures.1 in
    let contents = g.W.Sink.contents in
    let spelled = subst (λ text. SpellsSchedule text c.in_ok-schedule.recorded c.in_ok-schedule.schedule) c.as_slice.ensures.value c.in_ok-schedule.ensures.found in
    let bytes_are : c.in_ok-bytes.bytes.items ≡ schedule (told_as c.args.as_version c.in_ok-schedule.recorded) c.in_ok-schedule.schedule = search rules in
    let front = subst (AppendsFront (contents c.args.file.now) (contents c.write_all.new.self)) c.as_slice-2.ensures.value c.in_err-write_all.ensures.part in
    rw (p.1, p.2) (part_is_untranscribed _ c.args.as_version _ _ _ (inr (_, (_, _, _, c.in_ok-read.ensures.read, spelled, bytes_are), front)))
