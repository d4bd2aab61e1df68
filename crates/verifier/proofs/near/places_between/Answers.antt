use Rattle.std.proofs.Common.{◌∙◌, ap}
use Rattle.std.specs.Global.{Vec}
use Rattle.std.proofs.Common.{ℕ}
use Rattle.types.specs.declared.verification_type.VerificationType.TheVariants as type
use Rattle.verifier.proofs.Joining.{differs_here, agrees_here, agree_but}
use Rattle.verifier.proofs.near.places_between.Goals as goal
use Rattle.verifier.proofs.near.places_between.Goals.{then-not-is_same_type+else-len-ge-MOST_CHANGES+in_ok-push, else-not-is_same_type}

pub locals-preserved : goal.locals-preserved
locals-preserved c =
    let items = λ (v : Vec ℕ). v.items in
    let from = c.args.from.now in
    let to = c.args.to.now in
    elim c.if-not-is_same_type.branch [
      | then-not-is_same_type+else-len-ge-MOST_CHANGES+in_ok-push w ↦ differs_here from to c.if-from-to.false c.locals.local type.Unusable c.locals-test.true c.locals.places.items c.locals.invariant c.if-not-is_same_type.places.items (ap items w.places-is ∙ w.in_ok-push.ensures.items)
      | else-not-is_same_type w ↦ agrees_here from to c.if-from-to.false c.locals.local type.Unusable c.locals-test.true c.locals.places.items c.locals.invariant c.if-not-is_same_type.places.items (ap items w.places-is) (c.is_same_type.ensures w.if-not-is_same_type.false)
    ]

pub returns : goal.returns
returns c = agree_but c.args.from.now c.args.to.now c.locals.local c.locals.places.items c.if-from-to.false c.locals-test.false c.locals.invariant
