use Rattle.std.proofs.Common.{◌⊎◌, subst}
use Rattle.schedule.specs.declared.schedule_text.either.EitherFault.{EitherFault}
use Rattle.schedule.specs.schedule_text.Either.{IsMemory}
use Rattle.engines.specs.Opening.{IsUnspelled}
use Rattle.engines.proofs.OpeningLemmas.{unspelled}
use Rattle.engines.proofs.place_schedules.words_of.Goals as goal

pub returns-in-Err-File-clause-kept : goal.returns-in-Err-File-clause-kept
returns-in-Err-File-clause-kept c = λ left read.
    let is = c.in-Err-File in
    let why = unspelled is.field-0 left c.args.bytes.now read is.ensures.only is.ensures.refused in
    subst (λ (f : EitherFault). IsMemory f ⊎ IsUnspelled left f) is.field-0-is why
