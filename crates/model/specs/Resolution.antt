-- What the names in a file have to be found as (JVMS 5.4.3, 6.5): the conditions of Unresolved, each under a name. They are
-- said of each file of the program. Entries of the constant pool that nothing here names are not looked up (own).
use Rattle.std.specs.Prelude.{List, [], ◌∷◌, ◌++◌, Option, Some, None, Bool, true, false, not, ◌&&◌, ◌||◌, if◌then◌else◌, is_some, map}
use Rattle.std.specs.Option.{option_and_then, option_map_or, option_to_list, is_none}
use Rattle.std.specs.List.{list_any, flat_map}
use Rattle.model.specs.declared.instr.Instr.{Instr}
use Rattle.model.specs.declared.instr.Instr.TheVariants.{Field, Invoke, InvokeInterface, New}
use Rattle.model.specs.declared.instr.FieldAccess.{FieldAccess}
use Rattle.model.specs.declared.instr.FieldAccess.TheVariants as access
use Rattle.model.specs.declared.instr.Invocation.TheVariants as invocation
use Rattle.model.specs.Names.{Name, name_eq, Member, member_eq, constructor_name, system_out, system_err}
use Rattle.model.specs.HiddenMembers.{is_hidden, is_hidden_method}
use Rattle.model.specs.Tree.{Entry, FieldTree, MethodTree, FileTree}
use Rattle.model.specs.Pool.{class_name_at, method_at, interface_method_at, field_at}
use Rattle.model.specs.Conditions.{text_at}
use Rattle.model.specs.AccessFlags.{is_interface_class, is_abstract_class, is_static_method, is_static_field}
use Rattle.model.specs.Classes.{Program, class_of, super_name_of, interface_names}
use Rattle.model.specs.Lookup.{field_of, method_of, find_field, find_method, find_interface_method}
use Rattle.model.specs.DescriptorParts.{classes_in, classes_named, is_array_class}
use Rattle.model.specs.CodeParts.{any_code, any_instruction_in, class_operand, field_operand, method_operand}
use Rattle.model.specs.Hierarchy.{catch_class}

-- ---- classes (JVMS 5.4.3.1)

abbrev pub is_missing : Program → Name → Bool
is_missing files name = is_none (class_of files name)

-- a superclass that is not found
abbrev pub superclass_missing : Program → FileTree → Bool
superclass_missing files file = option_map_or (is_missing files) (super_name_of file) false

-- a superinterface that is not found
abbrev pub interface_missing : Program → FileTree → Bool
interface_missing files file = list_any (is_missing files) (interface_names file)

abbrev pub is_missing_catch : Program → Name → Bool
is_missing_catch files name = not (is_array_class name) && is_missing files name

-- a catch type that is not found
abbrev pub catch_type_missing : Program → FileTree → Bool
catch_type_missing files file =
    any_code (λ m c. list_any (λ e. option_map_or (is_missing_catch files) (catch_class file.pool e) false) c.exceptions) file

abbrev pub declared_descriptors : FileTree → List Name
declared_descriptors file = map (λ (f : FieldTree). text_at file.pool f.descriptor) file.fields ++ map (λ (m : MethodTree). text_at file.pool m.descriptor) file.methods

-- a class in the descriptor of a declared field or method that is not found
abbrev pub declared_class_missing : Program → FileTree → Bool
declared_class_missing files file = list_any (is_missing files) (flat_map classes_in (declared_descriptors file))

-- the classes that an operand needs: the one that it names, or that of an array's elements; the class of a field or of an
-- interface's method, and those in its descriptor
abbrev pub member_classes : Option Member → List Name
member_classes None = []
member_classes (Some m) = m.class ∷ classes_in m.descriptor

-- the class of another method, which may be an array class, and those in its descriptor
abbrev pub called_classes : Option Member → List Name
called_classes None = []
called_classes (Some m) = classes_named m.class ++ classes_in m.descriptor

abbrev pub method_classes : List Entry → Instr → List Name
method_classes pool (Invoke how index) = called_classes (method_at pool index)
method_classes pool (InvokeInterface index count last) = member_classes (interface_method_at pool index)
method_classes pool other = []

abbrev pub operand_classes : List Entry → Instr → List Name
operand_classes pool i =
    flat_map classes_named (option_to_list (class_operand pool i)) ++ (member_classes (field_operand pool i) ++ method_classes pool i)

-- one of them that is not found
abbrev pub operand_class_missing : Program → FileTree → Instr → Bool
operand_class_missing files file i = list_any (is_missing files) (operand_classes file.pool i)

-- `new` of an interface or of an abstract class (JVMS 6.5 new)
abbrev pub is_uninstantiable : FileTree → Bool
is_uninstantiable class = is_interface_class class || is_abstract_class class

abbrev pub new_of_abstract : Program → FileTree → Instr → Bool
new_of_abstract files file (New index) = option_map_or is_uninstantiable (option_and_then (class_of files) (class_name_at file.pool index)) false
new_of_abstract files file other = false

-- ---- fields (JVMS 5.4.3.2)

-- a field that is not found
abbrev pub field_missing : Program → FileTree → Instr → Bool
field_missing files file i = option_map_or (λ f. is_none (find_field files f)) (field_operand file.pool i) false

-- the field that an instruction names, where it is found
abbrev pub found_field : Program → List Entry → Instr → Option Member
found_field files pool i = option_and_then (find_field files) (field_operand pool i)

abbrev pub wants_static_field : FieldAccess → Bool
wants_static_field access.GetStatic = true
wants_static_field access.PutStatic = true
wants_static_field access.GetField = false
wants_static_field access.PutField = false

-- where one flag is wanted, the other one stands
abbrev pub differs : Bool → Bool → Bool
differs true found = not found
differs false found = found

-- getstatic or putstatic of an instance field, or getfield or putfield of a static one
abbrev pub field_of_other_kind : Program → FileTree → Instr → Bool
field_of_other_kind files file (Field access index) =
    option_map_or (λ (f : FieldTree). differs (wants_static_field access) (is_static_field f))
    (option_and_then (field_of files) (option_and_then (find_field files) (field_at file.pool index))) false
field_of_other_kind files file other = false

abbrev pub is_system_stream : Member → Bool
is_system_stream field = member_eq system_out field || member_eq system_err field

-- a putstatic of System.out or System.err
abbrev pub puts_system_stream : Program → FileTree → Instr → Bool
puts_system_stream files file (Field access.PutStatic index) = option_map_or is_system_stream (option_and_then (find_field files) (field_at file.pool index)) false
puts_system_stream files file other = false

abbrev pub names_hidden_field : Program → FileTree → Instr → Bool
names_hidden_field files file i = option_map_or is_hidden (found_field files file.pool i) false

-- ---- methods (JVMS 5.4.3.3, 5.4.3.4)

-- the method that an instruction names, where it is found: a constructor in the class that is named itself
abbrev pub found_in_class : Program → Member → Option Member
found_in_class files m = if name_eq m.name constructor_name then (if is_some (method_of files m) then Some m else None) else find_method files m

abbrev pub found_method : Program → List Entry → Instr → Option Member
found_method files pool (Invoke how index) = option_and_then (found_in_class files) (method_at pool index)
found_method files pool (InvokeInterface index count last) = option_and_then (find_interface_method files) (interface_method_at pool index)
found_method files pool other = None

-- a method that is not found, or a constructor that the class does not declare itself
abbrev pub method_missing : Program → FileTree → Instr → Bool
method_missing files file i = is_some (method_operand file.pool i) && is_none (found_method files file.pool i)

abbrev pub names_hidden_method : Program → FileTree → Instr → Bool
names_hidden_method files file i = option_map_or is_hidden_method (found_method files file.pool i) false

abbrev pub wants_static_method : Instr → Bool
wants_static_method (Invoke invocation.Static index) = true
wants_static_method other = false

-- invokestatic of an instance method, or another call of a static one
abbrev pub method_of_other_kind : Program → FileTree → Instr → Bool
method_of_other_kind files file i =
    option_map_or (λ (m : MethodTree). differs (wants_static_method i) (is_static_method m)) (option_and_then (method_of files) (found_method files file.pool i)) false

abbrev pub wants_interface : Instr → Bool
wants_interface (InvokeInterface index count last) = true
wants_interface other = false

-- an invokeinterface on a class, or another call on an interface
abbrev pub call_on_other_kind : Program → FileTree → Instr → Bool
call_on_other_kind files file i =
    option_map_or (λ (class : FileTree). differs (wants_interface i) (is_interface_class class))
    (option_and_then (λ (m : Member). class_of files m.class) (method_operand file.pool i)) false

-- ---- the refusal

abbrev pub unresolved_instruction : Program → FileTree → Instr → Bool
unresolved_instruction files file i =
    operand_class_missing files file i
    || (new_of_abstract files file i
    || (field_missing files file i
    || (field_of_other_kind files file i
    || (puts_system_stream files file i
    || (names_hidden_field files file i
    || (method_missing files file i
    || (names_hidden_method files file i
    || (method_of_other_kind files file i
    || call_on_other_kind files file i))))))))

-- Unresolved: one of the conditions stands in the file
abbrev pub is_unresolved : Program → FileTree → Bool
is_unresolved files file =
    superclass_missing files file
    || (interface_missing files file
    || (catch_type_missing files file
    || (declared_class_missing files file
    || any_instruction_in (unresolved_instruction files file) file)))
