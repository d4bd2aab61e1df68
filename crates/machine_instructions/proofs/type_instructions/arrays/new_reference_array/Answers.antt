use Rattle.std.proofs.Common.{refl, sym}
use Rattle.std.proofs.lemmas.List.{length-replicate}
use Rattle.model.specs.ReferenceTypes.{ReferenceArray}
use Rattle.model.specs.State.{References}
use Rattle.machine_instructions.proofs.type_instructions.arrays.new_reference_array.Goals as goal

pub returns : goal.returns
returns c = λ p t frames trees bounds inflated state frame rest code site meaning is.
    let new = is.stands.linked in
    c.make_array.ensures p t frames trees bounds inflated state frame rest code site meaning _ is (ReferenceArray new.of) (λ elements. References new.of elements) new.is new.to
    (λ count. (record { kind = new.component; words = refl }, sym (length-replicate count 0)))
