-- The classes that linking looks up for a class file (JVMS 5.3.5, 5.4.3.1), by their names. Other entries of the constant pool
-- are not looked up.
use Rattle.std.specs.Prelude.{List, [], ◌∷◌, ◌++◌, Option, Some, None, if◌then◌else◌}
use Rattle.std.specs.Option.{option_to_list}
use Rattle.std.specs.List.{flat_map, filter_map, Contains}
use Rattle.model.specs.declared.class_file.ExceptionEntry.{ExceptionEntry}
use Rattle.model.specs.declared.instr.Instr.{Instr}
use Rattle.model.specs.Names.{Name}
use Rattle.model.specs.Tree.{Entry, CodeTree, MethodTree, FileTree}
use Rattle.model.specs.Instruction.{instr_at}
use Rattle.model.specs.CodeParts.{boundaries}
use Rattle.model.specs.Classes.{super_name_of, interface_names, code_in}
use Rattle.model.specs.DescriptorParts.{is_array_class, classes_in}
use Rattle.model.specs.Hierarchy.{catch_class}
use Rattle.model.specs.Resolution.{declared_descriptors, operand_classes}

abbrev pub instructions_of : CodeTree → List Instr
instructions_of c = filter_map (instr_at c.code) (boundaries c.code)

-- a class that is no array class
abbrev pub plain_class : Option Name → List Name
plain_class None = []
plain_class (Some name) = if is_array_class name then [] else name ∷ []

-- the class that an exception entry catches
abbrev pub caught_classes : List Entry → ExceptionEntry → List Name
caught_classes pool e = plain_class (catch_class pool e)

-- what the operands of the instructions of a code name, with their descriptors, and what its exception entries catch
unfoldable pub code_classes : List Entry → CodeTree → List Name
code_classes pool c = flat_map (operand_classes pool) (instructions_of c) ++ flat_map (caught_classes pool) c.exceptions

abbrev pub codes_of : FileTree → List CodeTree
codes_of file = filter_map (λ (m : MethodTree). code_in m.parts) file.methods

-- the superclass, the superinterfaces, the classes of declared descriptors, and those of the codes
unfoldable pub needed_classes : FileTree → List Name
needed_classes file =
    option_to_list (super_name_of file)
    ++ (interface_names file
    ++ (flat_map classes_in (declared_descriptors file)
    ++ flat_map (code_classes file.pool) (codes_of file)))

-- these names are just those, in some order
pub record AreNeeded (file : FileTree) (names : List Name) : Type 0 where
  pub only : (name : Name) → Contains names name → Contains (needed_classes file) name
  pub all : (name : Name) → Contains (needed_classes file) name → Contains names name
