use Rattle.std.proofs.Common.{List, Option, ℕ, subst}
use Rattle.std.proofs.lemmas.Result.{err_from_is_err_and}
use Rattle.model.specs.declared.event.Event.{Event}
use Rattle.schedule.specs.Files.{Recording}
use Rattle.schedule.specs.schedule_text.Either.{GivesEvents, IsFaultOf, IsMemory}
use Rattle.engines.proofs.OpeningLemmas.{either_is_kept, either_is_unprinted}
use Rattle.engines.proofs.opening.read_given.Goals as goal

pub returns-in_err-read_either-in-Ok-clause-kept : goal.returns-in_err-read_either-in-Ok-clause-kept
returns-in_err-read_either-in-Ok-clause-kept g c =
    let p = err_from_is_err_and c.from_residual.result c.from_residual.ensures.1 in
    let fault = c.in_err-read_either-in-Ok.field-0.0 in
    let only = subst (λ (bytes : List ℕ). (recorded : Option Recording) (events : List Event) → GivesEvents bytes recorded events → IsMemory fault) c.as_slice.ensures.value c.in_err-read_either-in-Ok.ensures.only in
    let stands = subst (λ (bytes : List ℕ). IsFaultOf bytes fault) c.as_slice.ensures.value c.in_err-read_either-in-Ok.ensures.refused in
    rw (p.1, p.2) (λ lefts options. either_is_kept fault (g.S.Source.remaining c.args.file.now) c.in-Ok.bytes.items c.in-Ok.ensures.read only stands lefts options)

pub returns-in_err-read_either-in-Ok-clause-unprinted : goal.returns-in_err-read_either-in-Ok-clause-unprinted
returns-in_err-read_either-in-Ok-clause-unprinted g c =
    let p = err_from_is_err_and c.from_residual.result c.from_residual.ensures.1 in
    let fault = c.in_err-read_either-in-Ok.field-0.0 in
    let only = subst (λ (bytes : List ℕ). (recorded : Option Recording) (events : List Event) → GivesEvents bytes recorded events → IsMemory fault) c.as_slice.ensures.value c.in_err-read_either-in-Ok.ensures.only in
    let stands = subst (λ (bytes : List ℕ). IsFaultOf bytes fault) c.as_slice.ensures.value c.in_err-read_either-in-Ok.ensures.refused in
    rw (p.1, p.2) (λ held. either_is_unprinted fault (g.S.Source.remaining c.args.file.now) c.in-Ok.bytes.items c.in-Ok.ensures.read only stands held)
