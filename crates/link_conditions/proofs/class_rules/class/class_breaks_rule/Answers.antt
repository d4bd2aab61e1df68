use Rattle.std.proofs.Common.{arith}
use Rattle.std.proofs.lemmas.Grind.{common_steps}
use Rattle.link_conditions.proofs.class_rules.class.class_breaks_rule.Goals as goal

pub returns-else-implements_class : goal.returns-else-implements_class
returns-else-implements_class c = grind (arith, common_steps, c.is_interface_below_other.ensures c.args.set.now)
