use Rattle.std.proofs.Common.{◌∙◌, ap, true}
use Rattle.clap.specs.Words.{Rule, rule_of}
use Rattle.command_line.proofs.arguments.schedule_argument.Goals as goal

pub returns-clause-rule : goal.returns-clause-rule
returns-clause-rule c = ap rule_of c.required.ensures ∙ ap {A = Rule} (λ rule. record rule { required = true }) c.path_argument.ensures.rule

pub returns-clause-local : goal.returns-clause-local
returns-clause-local c = ap (λ argument. argument.global) c.required.ensures ∙ c.path_argument.ensures.local
