-- What this machine leaves out (own): the conditions of OutsideProfile, each under a name. A file in which one stands is refused.
use Rattle.std.specs.Prelude.{ℕ, ◌+◌, List, Bool, true, false, not, ◌&&◌, ◌||◌, ◌==◌, slice_index_or, codes}
use Rattle.std.specs.Option.{option_map_or}
use Rattle.std.specs.List.{list_any}
use Rattle.model.specs.declared.instr.Instr.{Instr}
use Rattle.model.specs.declared.instr.Instr.TheVariants.{LoadConstant, NewArray, Invoke}
use Rattle.model.specs.declared.instr.Invocation.{Invocation}
use Rattle.model.specs.declared.instr.Invocation.TheVariants as invocation
use Rattle.model.specs.Names.{Name, name_eq, Member, member_eq, java_lang_object, object_clone, constructor_name, initialiser_name}
use Rattle.model.specs.Tree.{Entry, Integer, Float, String, FieldPart, ConstantOf, SkippedOfField, FieldTree, MethodTree, CodeTree, FileTree}
use Rattle.model.specs.Spelling.{entry_at}
use Rattle.model.specs.Pool.{class_name_at, method_at}
use Rattle.model.specs.Conditions.{text_at}
use Rattle.model.specs.AccessFlags.{is_interface_class, is_static_field, is_public_method, is_private_method, is_static_method, is_final_method, is_synchronized_method, is_native_method, is_abstract_method}
use Rattle.model.specs.Descriptors.{ElementType, FieldType}
use Rattle.model.specs.Descriptors as element
use Rattle.model.specs.DescriptorParts.{types_in, returns_void, is_array_class}
use Rattle.model.specs.Lookup.{in_class}
use Rattle.model.specs.OpcodeTable.{Form, NoForm, Widened, form_of}
use Rattle.model.specs.Instruction.{word_at}
use Rattle.model.specs.CodeParts.{end_of_decoding, any_code, any_decoded_in, method_operand, operand_descriptors}

-- ---- descriptors

-- long, float and double
abbrev pub is_left_out_element : ElementType → Bool
is_left_out_element element.Long = true
is_left_out_element element.Float = true
is_left_out_element element.Double = true
is_left_out_element other = false

-- a descriptor with one of them, or with an array of one
abbrev pub has_left_out_type : Name → Bool
has_left_out_type descriptor = list_any (λ (f : FieldType). is_left_out_element f.element) (types_in descriptor)

-- ---- fields

-- of a type that is left out
abbrev pub field_of_left_out_type : FileTree → FieldTree → Bool
field_of_left_out_type file f = has_left_out_type (text_at file.pool f.descriptor)

abbrev pub is_int_or_string : Entry → Bool
is_int_or_string (Integer bits) = true
is_int_or_string (String text) = true
is_int_or_string e = false

abbrev pub is_left_out_constant : List Entry → FieldPart → Bool
is_left_out_constant pool (ConstantOf name index) = not (is_int_or_string (entry_at pool index))
is_left_out_constant pool (SkippedOfField a) = false

-- with a constant (JVMS 4.7.2) that is neither an int nor a string
abbrev pub left_out_constant : FileTree → FieldTree → Bool
left_out_constant file f = list_any (is_left_out_constant file.pool) f.parts

-- of an interface, but not static (JVMS 4.5 forbids it)
abbrev pub instance_field_of_interface : FileTree → FieldTree → Bool
instance_field_of_interface file f = is_interface_class file && not (is_static_field f)

-- ---- methods

abbrev pub method_name : FileTree → MethodTree → Name
method_name file m = text_at file.pool m.name

abbrev pub method_descriptor : FileTree → MethodTree → Name
method_descriptor file m = text_at file.pool m.descriptor

-- a constructor, and an initialiser of a class, by their names
abbrev pub is_constructor : FileTree → MethodTree → Bool
is_constructor file m = name_eq (method_name file m) constructor_name

abbrev pub is_initialiser : FileTree → MethodTree → Bool
is_initialiser file m = name_eq (method_name file m) initialiser_name

-- with a parameter or a result of a type that is left out
abbrev pub method_of_left_out_type : FileTree → MethodTree → Bool
method_of_left_out_type file m = has_left_out_type (method_descriptor file m)

abbrev pub native_method : FileTree → MethodTree → Bool
native_method file m = is_native_method m

-- an initialiser with parameters or a result; JVMS 2.9 lets it stand, of no consequence
abbrev pub initialiser_of_other_descriptor : FileTree → MethodTree → Bool
initialiser_of_other_descriptor file m = is_initialiser file m && not (name_eq (method_descriptor file m) (codes "()V"))

-- of its other flags none counts
abbrev pub abstract_initialiser : FileTree → MethodTree → Bool
abstract_initialiser file m = is_initialiser file m && is_abstract_method m

-- a constructor that returns a value (JVMS 4.4.2, 4.6 forbid it)
abbrev pub constructor_with_result : FileTree → MethodTree → Bool
constructor_with_result file m = is_constructor file m && not (returns_void (method_descriptor file m))

-- flags that JVMS 4.6 forbids beside ACC_ABSTRACT
abbrev pub contradicts_abstract : MethodTree → Bool
contradicts_abstract m =
    is_static_method m || (is_final_method m || (is_private_method m || (is_native_method m || is_synchronized_method m)))

abbrev pub contradictory_abstract_method : FileTree → MethodTree → Bool
contradictory_abstract_method file m = is_abstract_method m && contradicts_abstract m

-- flags that JVMS 4.6 forbids of a constructor
abbrev pub contradicts_constructor : MethodTree → Bool
contradicts_constructor m =
    is_static_method m || (is_final_method m || (is_abstract_method m || (is_native_method m || is_synchronized_method m)))

abbrev pub contradictory_constructor : FileTree → MethodTree → Bool
contradictory_constructor file m = is_constructor file m && contradicts_constructor m

-- a method that is public and private counts as private
abbrev pub is_public_abstract : MethodTree → Bool
is_public_abstract m = is_public_method m && (not (is_private_method m) && is_abstract_method m)

-- of an interface, but not public and abstract (JVMS 4.6 forbids it in this version); its initialiser aside
abbrev pub concrete_method_of_interface : FileTree → MethodTree → Bool
concrete_method_of_interface file m = is_interface_class file && (not (is_initialiser file m) && not (is_public_abstract m))

-- ---- opcodes (JVMS 6.5)

abbrev pub opcode_at : List ℕ → ℕ → ℕ
opcode_at code pc = slice_index_or code pc 0

-- what `wide` widens: iload, aload, istore, astore and iinc; wide ret is left out
abbrev pub is_widened : ℕ → Bool
is_widened opcode = (opcode == 0x15) || ((opcode == 0x19) || ((opcode == 0x36) || ((opcode == 0x3a) || (opcode == 0x84))))

abbrev pub is_known_form : Form → List ℕ → ℕ → Bool
is_known_form NoForm code pc = false
is_known_form Widened code pc = option_map_or is_widened (word_at 1 code (pc + 1)) true
is_known_form other code pc = true

-- the byte at an offset is an opcode of the table, and behind `wide` stands one that it widens
abbrev pub is_known_opcode : List ℕ → ℕ → Bool
is_known_opcode code pc = is_known_form (form_of (opcode_at code pc)) code pc

-- decoding ends where another opcode stands
abbrev pub unknown_opcode : MethodTree → CodeTree → Bool
unknown_opcode m c = option_map_or (λ pc. not (is_known_opcode c.code pc)) (end_of_decoding c.code) false

-- ---- operands

-- a field or a method of a type that is left out, or an array of one
abbrev pub operand_of_left_out_type : List Entry → Instr → Bool
operand_of_left_out_type pool i = list_any has_left_out_type (operand_descriptors pool i)

-- boolean, char, byte, short and int (JVMS table 6.5.newarray-A)
abbrev pub is_array_code : ℕ → Bool
is_array_code code = (code == 4) || ((code == 5) || ((code == 8) || ((code == 9) || (code == 10))))

-- newarray of another type
abbrev pub left_out_array : List Entry → Instr → Bool
left_out_array pool (NewArray code) = not (is_array_code code)
left_out_array pool other = false

abbrev pub is_float : Entry → Bool
is_float (Float bits) = true
is_float e = false

-- ldc of a float
abbrev pub float_constant : List Entry → Instr → Bool
float_constant pool (LoadConstant index) = is_float (entry_at pool index)
float_constant pool other = false

-- ldc of an array class
abbrev pub array_class_constant : List Entry → Instr → Bool
array_class_constant pool (LoadConstant index) = option_map_or is_array_class (class_name_at pool index) false
array_class_constant pool other = false

-- clone of an array whose elements are of no type that is left out (JLS 10.7)
abbrev pub is_array_clone : Member → Bool
is_array_clone m = not (has_left_out_type m.class) && member_eq (in_class java_lang_object m) object_clone

abbrev pub may_name : Invocation → Member → Bool
may_name invocation.Virtual m = not (is_array_class m.class) || is_array_clone m
may_name invocation.Special m = not (is_array_class m.class)
may_name invocation.Static m = not (is_array_class m.class)

-- a call of a method of an array class, but for an invokevirtual of clone
abbrev pub method_of_array_class : List Entry → Instr → Bool
method_of_array_class pool (Invoke how index) = option_map_or (λ (m : Member). not (may_name how m)) (method_at pool index) false
method_of_array_class pool i = option_map_or (λ (m : Member). is_array_class m.class) (method_operand pool i) false

-- ---- the refusal

-- the conditions of a field, of a method, and of an instruction
abbrev pub field_outside_profile : FileTree → FieldTree → Bool
field_outside_profile file f = field_of_left_out_type file f || (left_out_constant file f || instance_field_of_interface file f)

abbrev pub method_outside_profile : FileTree → MethodTree → Bool
method_outside_profile file m =
    method_of_left_out_type file m
    || (native_method file m
    || (initialiser_of_other_descriptor file m
    || (abstract_initialiser file m
    || (constructor_with_result file m
    || (contradictory_abstract_method file m
    || (contradictory_constructor file m
    || concrete_method_of_interface file m))))))

abbrev pub instruction_outside_profile : List Entry → Instr → Bool
instruction_outside_profile pool i =
    operand_of_left_out_type pool i
    || (left_out_array pool i
    || (float_constant pool i
    || (array_class_constant pool i
    || method_of_array_class pool i)))

-- OutsideProfile: one of the conditions stands in the file
abbrev pub is_outside_profile : FileTree → Bool
is_outside_profile file =
    list_any (field_outside_profile file) file.fields
    || (list_any (method_outside_profile file) file.methods
    || (any_code unknown_opcode file
    || any_decoded_in (instruction_outside_profile file.pool) file))
