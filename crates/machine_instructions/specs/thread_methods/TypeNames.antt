-- The names of classes and array types, by the numbers of a program and with dots for slashes (JVMS 4.3.2).
use Rattle.std.specs.Prelude.{ℕ, ◌+◌, List, [], ◌++◌, codes, replicate, slice_get}
use Rattle.std.specs.Option.{option_map_or}
use Rattle.model.specs.Primitives.{primitive_of}
use Rattle.model.specs.ObjectMethods.{primitive_letter}
use Rattle.model.specs.Texts.{Text}
use Rattle.heap.specs.declared.kind.ObjectKind.{ObjectKind}
use Rattle.heap.specs.declared.kind.ObjectKind.TheVariants as kind
use Rattle.heap.specs.Heap.{Object}
use Rattle.linked_code.specs.declared.class.LinkedClass.{LinkedClass}
use Rattle.linked_code.specs.declared.program.LinkedProgram.{LinkedProgram}
use Rattle.linked_code.specs.declared.types.Element.{Element}
use Rattle.linked_code.specs.declared.types.Element.TheVariants as element
use Rattle.linked_code.specs.declared.types.LinkedType.{LinkedType}
use Rattle.model.specs.declared.primitive.Primitive.TheVariants as primitive
use Rattle.machine_state.specs.type_tests.Tests.{linked_primitive}

-- the units of the name of a class; none of one that is not there
abbrev pub name_in : LinkedProgram → ℕ → Text
name_in p class = option_map_or (λ (row : LinkedClass). row.name.items) (slice_get p.classes.items class) []

-- what stands behind the brackets of an array type
abbrev pub element_text : LinkedProgram → Element → Text
element_text p (element.Primitive of) = primitive_letter (primitive_of of)
element_text p (element.Class class) = codes "L" ++ name_in p class ++ codes ";"

-- the descriptor of the type of arrays that hold what is of a type
abbrev pub array_text : LinkedProgram → LinkedType → Text
array_text p component = replicate (component.dimensions + 1) 91 ++ element_text p component.element

-- the name of the class of an object, or the descriptor of its array type
abbrev pub kind_text : LinkedProgram → ObjectKind → Text
kind_text p (kind.Instance class) = name_in p class
kind_text p kind.Ints = codes "[" ++ primitive_letter (primitive_of primitive.Int)
kind_text p (kind.Narrow narrow) = codes "[" ++ primitive_letter (primitive_of (linked_primitive narrow))
kind_text p (kind.References of) = option_map_or (array_text p) (slice_get p.components.items of) []

-- of an object; none of one that is not there
abbrev pub object_text : LinkedProgram → List Object → ℕ → Text
object_text p objects reference = option_map_or (λ (object : Object). kind_text p object.kind) (slice_get objects reference) []
