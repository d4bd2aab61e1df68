use Rattle.std.proofs.Common.{ap, ◌∙◌}
use Rattle.std.proofs.lemmas.Result.{IfOk-weaker}
use Rattle.std.specs.Option.{option_map}
use Rattle.schedule.specs.Files.{schedule}
use Rattle.schedule.proofs.Written.{is_joined, spells_so}
use Rattle.schedule.proofs.write.write_schedule.Goals as goal

pub returns-clause-written : goal.returns-clause-written
returns-clause-written c =
    IfOk-weaker c.file_bytes.result _ _ (λ v is. is ∙ ap (schedule (option_map (λ r. r.now) c.args.recording)) c.entries.ensures.are) c.file_bytes.ensures.written

pub returns-clause-spells : goal.returns-clause-spells
returns-clause-spells c =
    spells_so c.file_bytes.result (λ v. v.items) _ c.entries.result.now c.args.schedule.now c.entries.ensures.are c.entries.ensures.fit c.file_bytes.ensures.written c.file_bytes.ensures.fits

pub returns-clause-joined : goal.returns-clause-joined
returns-clause-joined c =
    is_joined c.file_bytes.result (λ v. v.items) _ c.entries.result.now c.args.schedule.now c.entries.ensures.are c.entries.ensures.fit c.file_bytes.ensures.written c.file_bytes.ensures.fits
