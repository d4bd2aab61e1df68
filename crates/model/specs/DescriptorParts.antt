-- What a descriptor names: its types, and their classes (JVMS 4.3).
use Rattle.std.specs.Prelude.{ℕ, List, [], ◌∷◌, ◌++◌, Option, Some, None, Bool, false, not, is_some, ◌==◌, if◌then◌else◌, unwrap_or}
use Rattle.std.specs.Option.{option_map_or}
use Rattle.std.specs.List.{filter_map}
use Rattle.model.specs.Names.{Name}
use Rattle.model.specs.Descriptors.{ElementType, FieldType, MethodType}
use Rattle.model.specs.Descriptors as element
use Rattle.model.specs.DescriptorScan.{field_type, method_type, method_slots}

abbrev pub return_types : Option FieldType → List FieldType
return_types None = []
return_types (Some f) = f ∷ []

-- the parameters, then what is returned
abbrev pub method_types : MethodType → List FieldType
method_types m = m.parameters ++ return_types m.returns

-- the types in the descriptor of a field or of a method; a text that is none names no types
abbrev pub types_in : Name → List FieldType
types_in descriptor = option_map_or (λ f. f ∷ []) (field_type descriptor) (option_map_or method_types (method_type descriptor) [])

abbrev pub class_of_element : ElementType → Option Name
class_of_element (element.Object name) = Some name
class_of_element other = None

-- the classes in a descriptor, those of arrays too
abbrev pub classes_in : Name → List Name
classes_in descriptor = filter_map (λ (f : FieldType). class_of_element f.element) (types_in descriptor)

-- whether a method of this descriptor returns nothing (JVMS 4.3.3)
abbrev pub returns_void : Name → Bool
returns_void descriptor = option_map_or (λ (m : MethodType). not (is_some m.returns)) (method_type descriptor) false

-- the slots of the arguments of a method of this descriptor, without that of a receiver (JVMS 4.3.3)
abbrev pub argument_slots : Name → ℕ
argument_slots descriptor = unwrap_or (method_slots descriptor) 0

-- ---- class constants (JVMS 4.4.1)

-- the text of a Class begins with [, and so is the descriptor of an array
abbrev pub is_array_class : Name → Bool
is_array_class [] = false
is_array_class (b ∷ bytes) = b == 91

-- the classes that a class constant needs: the one that it names, or that of an array's elements
abbrev pub classes_named : Name → List Name
classes_named name = if is_array_class name then classes_in name else name ∷ []
