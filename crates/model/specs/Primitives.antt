-- The primitive types of the code as those of the definitions.
use Rattle.model.specs.ReferenceTypes as reference
use Rattle.model.specs.declared.primitive.Primitive.{Primitive}
use Rattle.model.specs.declared.primitive.Primitive.TheVariants as primitive

abbrev pub primitive_of : Primitive → reference.Primitive
primitive_of primitive.Boolean = reference.Boolean
primitive_of primitive.Char = reference.Char
primitive_of primitive.Byte = reference.Byte
primitive_of primitive.Short = reference.Short
primitive_of primitive.Int = reference.Int
