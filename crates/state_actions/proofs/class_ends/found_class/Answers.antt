use Rattle.std.proofs.Common.{sym, subst}
use Rattle.std.specs.Prelude.{None}
use Rattle.state_actions.specs.class_ends.Classes.{FindsClass}
use Rattle.state_actions.proofs.class_ends.Finished.{none_found}
use Rattle.state_actions.proofs.class_ends.found_class.Goals as goal

pub returns-in-Some : goal.returns-in-Some
returns-in-Some c = subst (λ number. FindsClass c.args.shared.now number c.finding.result) (sym c.in-Some.is) c.finding.ensures

pub returns-in-None : goal.returns-in-None
returns-in-None c = subst (λ number. FindsClass c.args.shared.now number None) (sym c.in-None.is) (tt, none_found c.args.shared.now)
