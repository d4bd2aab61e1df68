use Rattle.std.proofs.Common.{sym, subst}
use Rattle.model.specs.ReferenceTypes.{PrimitiveArray}
use Rattle.model.specs.State.{Primitives}
use Rattle.model.specs.Primitives.{primitive_of}
use Rattle.machine_instructions.specs.type_instructions.Arrays.{AreArrays}
use Rattle.machine_instructions.proofs.type_instructions.Making.{primitive_arrays}
use Rattle.machine_instructions.proofs.type_instructions.arrays.new_array.Goals as goal

pub returns : goal.returns
returns c = λ p t frames trees bounds inflated state frame rest code site meaning is.
    let new = is.stands.linked in
    c.make_array.ensures p t frames trees bounds inflated state frame rest code site meaning _ is (PrimitiveArray (primitive_of c.args.of)) (λ elements. Primitives (primitive_of c.args.of) elements)
    new.is new.to (subst (λ of. AreArrays trees p of (λ elements. Primitives (primitive_of c.args.of) elements)) (sym c.kind_of_array.ensures) (primitive_arrays trees p c.args.of))
