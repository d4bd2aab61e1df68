use Rattle.std.proofs.Common.{◌≡◌, suc, refl, arith, ◌∙◌}
use Rattle.machine_instructions.proofs.type_instructions.Events.{is_top}
use Rattle.machine_instructions.proofs.type_instructions.Testing.{throws}
use Rattle.machine_instructions.proofs.type_instructions.objects.throw.Goals as goal

pub returns-in-Some-checked_sub : goal.returns-in-Some-checked_sub
returns-in-Some-checked_sub c = λ p t shared frames trees bounds inflated state frame rest code site meaning is.
    let word : suc c.in-Some-checked_sub.exception ≡ c.operand.result = grind (arith, c.in-Some-checked_sub.ensures) in (
      throws is frames c.in-Some-checked_sub.exception _ (is_top is _ c.in-Some.ensures) (word ∙ c.operand.ensures) is.stands.linked,
      record { shared = refl; stack = refl },
    )
