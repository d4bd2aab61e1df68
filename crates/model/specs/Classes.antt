-- The classes of a program (JVMS 5.3): the built-in ones, and those of its files.
use Rattle.std.specs.Prelude.{ℕ, zero, suc, List, [], ◌∷◌, ◌++◌, Option, Some, None, Bool, false, ◌&&◌, ◌||◌, ◌==◌, if◌then◌else◌, find, is_some, length, unwrap_or}
use Rattle.std.specs.Option.{option_and_then, option_map, option_map_or}
use Rattle.std.specs.List.{filter_map, flat_map, list_any}
use Rattle.model.specs.Names.{Name, name_eq, spells, Member}
use Rattle.model.specs.Tree.{Entry, FileTree, MethodTree, MethodPart, CodeTree, CodeOf, SkippedOfMethod}
use Rattle.model.specs.Pool.{utf8_at, class_name_at}
use Rattle.model.specs.AccessFlags.{is_interface_class}
use Rattle.model.specs.BuiltIn.{built_in_classes}

-- the trees of the files, in their order
abbrev pub Program : Type 0
Program = List FileTree

-- the name of the class that a file declares (JVMS 4.1, this_class)
abbrev pub name_of : FileTree → Name
name_of file = unwrap_or (class_name_at file.pool file.this_class) []

-- the name of its direct superclass (JVMS 4.1, super_class)
abbrev pub super_name_of : FileTree → Option Name
super_name_of file = class_name_at file.pool file.super_class

abbrev pub classes_of : Program → List FileTree
classes_of files = built_in_classes ++ files

abbrev pub is_named : Name → FileTree → Bool
is_named name file = name_eq (name_of file) name

abbrev pub is_built_in : Name → Bool
is_built_in name = is_some (find (is_named name) built_in_classes)

-- the class of a name (JVMS 5.3)
abbrev pub class_of : Program → Name → Option FileTree
class_of files name = find (is_named name) (classes_of files)

abbrev pub superclass_of : Program → Name → Option Name
superclass_of files name = option_and_then super_name_of (class_of files name)

-- the first class is the second, or is below it by at most so many steps
abbrev pub is_within : Program → ℕ → Name → Name → Bool
is_within files zero c d = name_eq c d
is_within files (suc n) c d = name_eq c d || option_map_or (λ s. is_within files n s d) (superclass_of files c) false

-- the first class is the second or a subclass of it (JVMS 2.4, 4.10.1.2)
abbrev pub is_subclass : Program → Name → Name → Bool
is_subclass files c d = is_within files (length (classes_of files)) c d

-- a class and its superclasses, the nearest first, so many at most
abbrev pub lineage_of : Program → ℕ → Name → List Name
lineage_of files zero class = []
lineage_of files (suc n) class = class ∷ option_map_or (λ s. lineage_of files n s) (superclass_of files class) []

-- all of them: no class is below more than there are
abbrev pub lineage : Program → Name → List Name
lineage files class = lineage_of files (length (classes_of files)) class

-- ---- interfaces

-- the names of the direct superinterfaces (JVMS 4.1, interfaces)
abbrev pub interface_names : FileTree → List Name
interface_names file = filter_map (class_name_at file.pool) file.interfaces

abbrev pub superinterfaces_of : Program → Name → List Name
superinterfaces_of files name = option_map_or interface_names (class_of files name) []

-- the class of a name is there and is an interface
abbrev pub is_interface : Program → Name → Bool
is_interface files name = option_map_or is_interface_class (class_of files name) false

-- an interface and its superinterfaces, by at most so many steps
abbrev pub interfaces_from : Program → ℕ → Name → List Name
interfaces_from files zero interface = interface ∷ []
interfaces_from files (suc n) interface = interface ∷ flat_map (λ i. interfaces_from files n i) (superinterfaces_of files interface)

-- the direct superinterfaces of a class, each with its own
abbrev pub interfaces_above : Program → Name → List Name
interfaces_above files class = flat_map (interfaces_from files (length (classes_of files))) (superinterfaces_of files class)

-- all superinterfaces of a class or of an interface: its own, and those of its superclasses (JVMS 2.4)
abbrev pub all_superinterfaces : Program → Name → List Name
all_superinterfaces files class = flat_map (interfaces_above files) (lineage files class)

-- it is the interface, or has it as a superinterface
abbrev pub implements : Program → Name → Name → Bool
implements files class interface = name_eq class interface || list_any (λ i. name_eq i interface) (all_superinterfaces files class)

-- ---- packages

-- the package (JVMS 5.3): what stands in a name up to its last slash
abbrev pub package_of : Name → Name
package_of [] = []
package_of (b ∷ bytes) = if list_any (λ c. c == 47) (b ∷ bytes) then b ∷ package_of bytes else []

abbrev pub same_package : Name → Name → Bool
same_package c d = name_eq (package_of c) (package_of d)

-- ---- methods

-- a method is of this name and descriptor (JVMS 4.6)
abbrev pub is_method : List Entry → Name → Name → MethodTree → Bool
is_method pool name descriptor m = spells (utf8_at pool m.name) name && spells (utf8_at pool m.descriptor) descriptor

-- the method that a class itself declares (JVMS 4.6)
abbrev pub declared_in : FileTree → Name → Name → Option MethodTree
declared_in file name descriptor = find (is_method file.pool name descriptor) file.methods

abbrev pub code_in : List MethodPart → Option CodeTree
code_in [] = None
code_in (CodeOf name code ∷ parts) = Some code
code_in (SkippedOfMethod a ∷ parts) = code_in parts

-- a method where it runs: the constant pool of its class, and its code
pub record Body : Type 0 where
  pub pool : List Entry
  pub code : CodeTree

abbrev pub with_pool : List Entry → CodeTree → Body
with_pool pool code = record { pool = pool; code = code }

abbrev pub body_in : Name → Name → FileTree → Option Body
body_in name descriptor file = option_map (with_pool file.pool) (option_and_then (λ (m : MethodTree). code_in m.parts) (declared_in file name descriptor))

-- the body of the method that a class itself declares
abbrev pub body_of : Program → Member → Option Body
body_of files m = option_and_then (body_in m.name m.descriptor) (class_of files m.class)
