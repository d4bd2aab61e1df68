use Rattle.std.proofs.Common.{◌∙◌, ap, subst}
use Rattle.std.specs.Prelude.{IfOk}
use Rattle.std.proofs.lemmas.Result.{IfOk-weaker}
use Rattle.clap.specs.Words.{App, app_of, with_subcommand}
use Rattle.command_line.specs.Parsers.{IsParser}
use Rattle.command_line.proofs.parsers.with_parser.Goals as goal

pub returns-in-Ok : goal.returns-in-Ok
returns-in-Ok c = λ app parser.
    let made : IsParser c.in-Ok.parser app = subst (λ r. IfOk r (λ p. IsParser p app)) c.in-Ok.is parser in
    IfOk-weaker c.subcommand.result _ _ (λ whole added. added.shape made.1 ∙ ap (λ (a : App). with_subcommand (app_of c.args.command) a.top) made.0) c.subcommand.ensures
