use Rattle.std.proofs.Common.{false, sym, subst}
use Rattle.race_actions.specs.looking.Known.{IsFinishedIf}
use Rattle.race_actions.proofs.looking.was_finished.Goals as goal

pub returns-in-Some : goal.returns-in-Some
returns-in-Some c = subst (λ class. IsFinishedIf c.args.shared.now class c.is_finished.result) (sym c.in-Some.is) c.is_finished.ensures

pub returns-in-None : goal.returns-in-None
returns-in-None c = subst (λ class. IsFinishedIf c.args.shared.now class false) (sym c.in-None.is) tt
