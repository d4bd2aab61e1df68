-- The types of `Rattle.model.specs.Descriptors` that the values of this crate are.
use Rattle.std.specs.Prelude.{◌≡◌, Option, Some, None}
use Rattle.constant_pool.specs.declared.descriptors.field.Element as declared_element
use Rattle.constant_pool.specs.declared.descriptors.field.Element.TheVariants as elements
use Rattle.constant_pool.specs.declared.descriptors.field.Field as declared_field
use Rattle.model.specs.Descriptors.{ElementType, Byte, Char, Double, Float, Int, Long, Object, Short, Boolean, FieldType}

abbrev pub element_of : declared_element.Element → ElementType
element_of elements.Byte = Byte
element_of elements.Char = Char
element_of elements.Double = Double
element_of elements.Float = Float
element_of elements.Int = Int
element_of elements.Long = Long
element_of (elements.Object name) = Object name.now
element_of elements.Short = Short
element_of elements.Boolean = Boolean

abbrev pub field_of : declared_field.Field → FieldType
field_of f = record { dimensions = f.dimensions; element = element_of f.element }

-- what was answered, seen by `view`, is what reading gives
abbrev pub Gives : {X Y : Type 0} → (X → Y) → Option X → Option Y → Type 0
Gives view (Some x) read = read ≡ Some (view x)
Gives view None read = read ≡ None
