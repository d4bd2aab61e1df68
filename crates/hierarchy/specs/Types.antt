-- The reference types that values stand for.
use Rattle.model.specs.ReferenceTypes.{ReferenceType, ClassType, PrimitiveArray}
use Rattle.model.specs.DescribedTypes.{arrays}
use Rattle.model.specs.Primitives.{primitive_of}
use Rattle.hierarchy.specs.declared.reference_type.Innermost as declared_innermost
use Rattle.hierarchy.specs.declared.reference_type.Innermost.TheVariants as innermost
use Rattle.hierarchy.specs.declared.reference_type.ReferenceType as declared_type

abbrev pub innermost_of : declared_innermost.Innermost → ReferenceType
innermost_of (innermost.Class name) = ClassType name.now
innermost_of (innermost.PrimitiveArray primitive) = PrimitiveArray (primitive_of primitive)

abbrev pub type_of : declared_type.ReferenceType → ReferenceType
type_of type = arrays type.arrays (innermost_of type.innermost)
