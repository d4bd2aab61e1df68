use Rattle.std.proofs.Common.{◌≡◌, ◌∙◌, sym, subst, true}
use Rattle.std.specs.Prelude.{IsSomeAnd}
use Rattle.model.specs.Step.{covers}
use Rattle.verifier.specs.Looks.{RaisesTo}
use Rattle.verifier.specs.declared.near.Near.{Near}
use Rattle.verifier.proofs.found.Found.raise_near.Goals as goal

pub returns-clause-raised : goal.returns-clause-raised
returns-clause-raised c =
    let raised = subst (λ l. RaisesTo c.args.method.now c.args.self.now c.args.to c.args.origin.now.before l c.raise.new.self) c.deref.ensures.value c.in_ok-raise.ensures.raised in
    λ t. subst (λ o. IsSomeAnd o (λ (n : Near). (covers n.offset c.args.handler.entry ≡ true) × RaisesTo c.args.method.now c.args.self.now c.args.to c.args.origin.now.before n.changed.items c.raise.new.self)) (sym c.in-Some.is) (sym c.covers.ensures ∙ c.if-not-covers.false, raised)
