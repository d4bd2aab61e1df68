use Rattle.std.proofs.Common.{sym, subst}
use Rattle.std.specs.Prelude.{None}
use Rattle.state_actions.specs.class_ends.Classes.{FinishesClass}
use Rattle.state_actions.proofs.class_ends.Finished.{none_finished}
use Rattle.state_actions.proofs.class_ends.finished_class.Goals as goal

pub returns-in-Some : goal.returns-in-Some
returns-in-Some c = subst (λ number. FinishesClass c.args.shared.now number c.args.was_finished c.finishing.result) (sym c.in-Some.is) c.finishing.ensures

pub returns-in-None : goal.returns-in-None
returns-in-None c = subst (λ number. FinishesClass c.args.shared.now number c.args.was_finished None) (sym c.in-None.is) (tt, none_finished c.args.shared.now c.args.was_finished)
