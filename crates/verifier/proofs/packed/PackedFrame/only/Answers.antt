use Rattle.std.proofs.Common.{◌∙◌, length, get_or, ap}
use Rattle.std.specs.Prelude.{slice_set}
use Rattle.std.proofs.lemmas.List.{length-set}
use Rattle.types.specs.declared.verification_type.VerificationType.TheVariants as type
use Rattle.verifier.proofs.Joining.{all_hold, holds_more}
use Rattle.verifier.proofs.packed.PackedFrame.only.Goals as goal

pub locals-preserved : goal.locals-preserved
locals-preserved c =
    record {
      long = ap length c.in_ok-set_local.ensures.locals ∙ (length-set _ _ _ ∙ c.locals.invariant.long);
      holds =
          holds_more c.args.locals.now c.locals.local-index 0 c.locals.only.locals c.args.self.now.locals c.set_local.new.self.locals type.Unusable c.locals-test.true
          c.locals.invariant.long c.locals.invariant.holds
          (c.in_ok-set_local.ensures.locals ∙ ap (λ t. slice_set c.locals.only.locals (get_or c.args.locals.now c.locals.local-index 0) t) c.local_at.ensures);
    }

pub returns-then-self-le-FEW_LOCALS : goal.returns-then-self-le-FEW_LOCALS
returns-then-self-le-FEW_LOCALS c = all_hold c.args.locals.now c.args.self.now c.locals_alone.result c.locals_alone.ensures
