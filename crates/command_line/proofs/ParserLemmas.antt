-- The parser of a command, made argument by argument.
use Rattle.std.proofs.Common.{◌≡◌, ◌∙◌, ap₂, false}
use Rattle.std.specs.Prelude.{◌||◌}
use Rattle.clap.specs.Simple.{App}
use Rattle.clap.specs.Walk.{Rule}
use Rattle.clap.specs.Words.{AddsArg, rule_of, with_rule}
use Rattle.clap.specs.declared.builder.arg.Arg.{Arg}
use Rattle.clap.specs.declared.builder.command.Command.{Command}
use Rattle.command_line.specs.Parsers.{IsParser}

-- one argument more
pub with_argument : (old : Command) (argument : Arg) (new : Command) (app : App) (rule : Rule) → IsParser old app → rule_of argument ≡ rule
    → argument.global ≡ false → AddsArg old argument new → IsParser new (with_rule app rule)
with_argument old argument new app rule parser rule_is local added =
    (added.shape local ∙ ap₂ with_rule parser.0 rule_is, added.globals ∙ ap₂ (λ a b. a || b) parser.1 local)
