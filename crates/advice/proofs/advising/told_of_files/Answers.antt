use Rattle.std.proofs.Common.{Option, subst, arith, ℕ}
use Rattle.advice.specs.Telling.{TellsPlace}
use Rattle.advice.proofs.WalkLaws.{files_more}
use Rattle.advice.proofs.advising.told_of_files.Goals as goal

pub loop-number-preserved : goal.loop-number-preserved
loop-number-preserved c =
    let classes = c.args.classes.now in
    let number = c.loop-number.number in
    let place = subst (λ (p : Option ℕ). TellsPlace classes p c.push_fault.new.told.items c.push_class_at.new.told.items number) c.place_at-place.ensures c.in_ok-push_class_at.ensures in
    files_more classes c.args.places.now _ _ _ number c.loop-number.invariant c.in_ok-push_fault.ensures place

pub returns : goal.returns
returns c = λ number lt. c.loop-number.invariant number (omega (arith, lt, c.loop-number-test.false))
