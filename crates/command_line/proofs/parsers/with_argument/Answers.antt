use Rattle.std.proofs.Common.{subst}
use Rattle.std.specs.Prelude.{IfOk}
use Rattle.std.proofs.lemmas.Result.{IfOk-weaker}
use Rattle.command_line.specs.Parsers.{IsParser}
use Rattle.command_line.proofs.ParserLemmas.{with_argument}
use Rattle.command_line.proofs.parsers.with_argument.Goals as goal

pub returns-in-Ok : goal.returns-in-Ok
returns-in-Ok c = λ app rule parser rule_is local.
    let made : IsParser c.in-Ok.command app = subst (λ r. IfOk r (λ p. IsParser p app)) c.in-Ok.is parser in
    IfOk-weaker c.arg.result _ _ (λ whole added. with_argument _ c.args.argument _ _ _ made rule_is local added) c.arg.ensures
