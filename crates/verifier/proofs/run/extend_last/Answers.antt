use Rattle.std.proofs.Common.{length, ◌-◌, arith, refl}
use Rattle.std.proofs.lemmas.Option.{slice_get_read}
use Rattle.verifier.proofs.Runs.{grown}
use Rattle.verifier.proofs.run.extend_last.Goals as goal

pub returns-clause-added : goal.returns-clause-added
returns-clause-added c =
    let runs = c.args.runs.now in
    let last = c.in-Some.last.now in
    let item = c.in-Some.ensures.item in
    let some = item.3.0 in
    let at = slice_get_read runs (length runs) (length runs - 1) last refl (omega (arith, some)) item.1 in
    λ t. grown runs last c.args.run c.in-Some-checked_add.count at (c.is_same_type.ensures c.if-not-is_same_type.false) (c.in-Some-checked_add.ensures).1
