use Rattle.std.proofs.Common.{◌-◌, ◌<◌, ◌∙◌, sym, ap, arith}
use Rattle.model.specs.ReferenceTypes.{PrimitiveArray}
use Rattle.model.specs.Types.{OfType}
use Rattle.model.specs.DescribedTypes.{verification_type}
use Rattle.model.specs.Primitives.{primitive_of}
use Rattle.types.proofs.described_types.Arrays.{made_arrays, primitive_before}
use Rattle.types.proofs.described_types.described.primitive_type.Goals as goal

pub returns-clause-value : goal.returns-clause-value
returns-clause-value c files =
    let n = c.args.dimensions in
    let of = primitive_of c.args.primitive in
    let some : 0 < n = omega arith in
    sym (ap (verification_type files) (primitive_before n of some) ∙ ap (λ t. OfType t) (made_arrays files (n - 1) (PrimitiveArray of)))
