use Rattle.std.proofs.Common.{◌≡◌, subst, sym}
use Rattle.std.specs.Prelude.{IfErr}
use Rattle.std.specs.Int.{w32}
use Rattle.std.specs.Int.RustNames.{FitsSigned}
use Rattle.std.proofs.lemmas.Int.{to_z-of_z}
use Rattle.model.specs.Report.{signed_number}
use Rattle.command_line.specs.CommandLine.{Refuses}
use Rattle.command_line.proofs.CommandLineLemmas.{refused_more, refuses}
use Rattle.command_line.proofs.GoalLemmas.{not_read, not_spelled}
use Rattle.command_line.proofs.goal.int.Goals as goal

pub returns-in-Ok-clause-none : goal.returns-in-Ok-clause-none
returns-in-Ok-clause-none c =
    let read = c.in-Ok.ensures.value.0 in
    let fits : FitsSigned w32 c.in-Ok.int = subst (FitsSigned w32) (sym read.1) read.0.1 in
    let none = subst (λ n. IfErr c.as_spelled.result (λ usage. Refuses usage (c.args.text.now ≡ signed_number n → ⊥))) (to_z-of_z w32 c.in-Ok.int fits) c.as_spelled.ensures.none in
    refused_more c.as_spelled.result _ _ (not_spelled c.args.text.now c.in-Ok.int read) none

pub returns-in-Err-clause-none : goal.returns-in-Err-clause-none
returns-in-Err-clause-none c = refuses c.no_int.result _ c.no_int.ensures (not_read c.args.text.now c.in-Err.ensures.value.0)
