-- An event that picks something is none of a method but notify.
use Rattle.std.proofs.Common.{◌≡◌, ◌==◌, ◌&&◌, ℕ, List, Bool, true, false, eqb-true, refl, ap}
use Rattle.model.specs.declared.event.Event.{Event}
use Rattle.model.specs.BuiltInMethods.{object_of, may_join, built_in_may}
use Rattle.model.specs.Operands.{words}
use Rattle.model.specs.State.{WorldOf}
use Rattle.linked_code.specs.declared.method.BuiltInMethod.{BuiltInMethod}
use Rattle.linked_code.specs.declared.method.BuiltInMethod.TheVariants as method
use Rattle.linked_code.specs.Methods.{built_in_of}

picks_some : (pick : ℕ) → (pick ≡ 0 → ⊥) → (pick == 0) ≡ false
picks_some pick some = by (pick == 0) refl
  where
    by : (b : Bool) → (pick == 0) ≡ b → b ≡ false
    by true e = absurd (some (eqb-true pick 0 e))
    by false e = refl

pub not_notify : (called : BuiltInMethod) → (called ≡ method.ObjectNotify → ⊥) → (event : Event) → (event.pick ≡ 0 → ⊥)
    → (world : WorldOf ℕ) (ops : List ℕ) → built_in_may words (built_in_of called) event world ops ≡ false
not_notify method.Construct other event some world ops = picks_some event.pick some
not_notify method.ObjectClone other event some world ops = picks_some event.pick some
not_notify method.ConstructWithMessage other event some world ops = picks_some event.pick some
not_notify method.ConstructWithCause other event some world ops = picks_some event.pick some
not_notify method.ObjectWait other event some world ops = picks_some event.pick some
not_notify method.ObjectNotify other event some world ops = absurd (other refl)
not_notify method.ObjectNotifyAll other event some world ops = picks_some event.pick some
not_notify method.ThreadStart other event some world ops = picks_some event.pick some
not_notify method.ThreadInterrupt other event some world ops = picks_some event.pick some
not_notify method.ThreadIsInterrupted other event some world ops = picks_some event.pick some
not_notify method.ThreadInterrupted other event some world ops = picks_some event.pick some
not_notify method.ThreadYield other event some world ops = picks_some event.pick some
not_notify method.ThreadCurrentThread other event some world ops = picks_some event.pick some
not_notify method.ThreadJoin other event some world ops =
    ap (λ b. b && may_join world event.thread (object_of words ops 0)) (picks_some event.pick some)
not_notify method.ThreadIsAlive other event some world ops = picks_some event.pick some
not_notify (method.ThreadNames names) other event some world ops = picks_some event.pick some
not_notify (method.PrintStreamPrints print) other event some world ops = picks_some event.pick some
not_notify (method.StringAnswers string) other event some world ops = picks_some event.pick some
not_notify (method.StringWrites writes) other event some world ops = picks_some event.pick some
not_notify (method.StringBuilderBuilds builds) other event some world ops = picks_some event.pick some
not_notify (method.ObjectAnswers builds) other event some world ops = picks_some event.pick some
