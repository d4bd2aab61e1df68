-- What the classes of a program have to be to one another (JVMS 4.1, 4.6, 4.10, 5.3.5): the conditions of BadHierarchy, each
-- under a name. They are said of each file of the program.
use Rattle.std.specs.Prelude.{ℕ, zero, suc, List, [], ◌++◌, Option, None, Bool, false, not, ◌&&◌, ◌||◌, ◌==◌, if◌then◌else◌, length, is_some}
use Rattle.std.specs.Option.{option_and_then, option_map_or, option_to_list}
use Rattle.std.specs.List.{list_any}
use Rattle.model.specs.declared.class_file.ExceptionEntry.{ExceptionEntry}
use Rattle.model.specs.Names.{Name, name_eq, constructor_name, initialiser_name, java_lang_object, java_lang_throwable}
use Rattle.model.specs.Tree.{Entry, MethodTree, FileTree}
use Rattle.model.specs.Pool.{class_name_at}
use Rattle.model.specs.AccessFlags.{is_package_private, is_interface_class, is_final_class, is_private_method, is_static_method, is_instance_method, is_final_method}
use Rattle.model.specs.Classes.{Program, name_of, super_name_of, classes_of, class_of, superclass_of, is_subclass, lineage, interface_names, superinterfaces_of, is_interface, same_package}
use Rattle.model.specs.Lookup.{method_of}
use Rattle.model.specs.DescriptorParts.{is_array_class}
use Rattle.model.specs.CodeParts.{any_code}
use Rattle.model.specs.Profile.{method_name, method_descriptor}

-- ---- cycles (JVMS 5.3.5)

-- the direct superclass and the direct superinterfaces of a class
abbrev pub direct_supertypes : Program → Name → List Name
direct_supertypes files class = option_to_list (superclass_of files class) ++ superinterfaces_of files class

-- the second class is above the first one, by one step at least and by at most so many
abbrev pub is_above : Program → ℕ → Name → Name → Bool
is_above files zero c d = false
is_above files (suc n) c d = list_any (λ s. name_eq s d || is_above files n s d) (direct_supertypes files c)

-- a class that is above itself
abbrev pub in_cycle : Program → FileTree → Bool
in_cycle files file = is_above files (length (classes_of files)) (name_of file) (name_of file)

-- ---- superclasses and superinterfaces (JVMS 4.1)

-- a superclass that is an interface
abbrev pub extends_interface : Program → FileTree → Bool
extends_interface files file = option_map_or (is_interface files) (super_name_of file) false

-- a superclass that is final
abbrev pub extends_final : Program → FileTree → Bool
extends_final files file = option_map_or is_final_class (option_and_then (class_of files) (super_name_of file)) false

abbrev pub is_found_class : Program → Name → Bool
is_found_class files name = is_some (class_of files name) && not (is_interface files name)

-- a superinterface that is a class
abbrev pub implements_class : Program → FileTree → Bool
implements_class files file = list_any (is_found_class files) (interface_names file)

-- an interface whose superclass is not Object
abbrev pub interface_below_other : Program → FileTree → Bool
interface_below_other files file = is_interface_class file && not (option_map_or (λ s. name_eq s java_lang_object) (super_name_of file) false)

-- ---- methods that are declared again below (JVMS 5.4.5; own where it says no more)

-- the superclasses of a class, the nearest first
abbrev pub superclasses : Program → FileTree → List Name
superclasses files file = option_map_or (lineage files) (super_name_of file) []

-- a method of a superclass, and the one of the same name and descriptor of the class: what is asked of both, by the
-- superclass's name and the class's
abbrev pub Redeclaration : Type 0
Redeclaration = Name → MethodTree → Name → MethodTree → Bool

-- a final instance method, declared again
abbrev pub final_redeclared : Redeclaration
final_redeclared super m class again = is_final_method m && is_instance_method m

-- a static method declared again as an instance method
abbrev pub static_redeclared : Redeclaration
static_redeclared super m class again = is_static_method m && is_instance_method again

-- an instance method declared again as a static one
abbrev pub instance_redeclared : Redeclaration
instance_redeclared super m class again = is_instance_method m && is_static_method again

-- a package-private instance method declared again in another package; so selection does not depend on packages
abbrev pub redeclared_in_other_package : Redeclaration
redeclared_in_other_package super m class again = is_instance_method m && (is_package_private m.flags && not (same_package super class))

-- an instance method declared again as a private one
abbrev pub redeclared_as_private : Redeclaration
redeclared_as_private super m class again = is_instance_method m && is_private_method again

abbrev pub is_special_name : Name → Bool
is_special_name name = name_eq name constructor_name || name_eq name initialiser_name

-- the method of a superclass is declared, is not private, and stands so to the class's own
abbrev pub redeclares_in : Redeclaration → Program → FileTree → MethodTree → Name → Bool
redeclares_in is_bad files file again super =
    option_map_or (λ m. not (is_private_method m) && is_bad super m (name_of file) again)
    (method_of files (record { class = super; name = method_name file again; descriptor = method_descriptor file again })) false

abbrev pub method_redeclares : Redeclaration → Program → FileTree → MethodTree → Bool
method_redeclares is_bad files file again =
    not (is_special_name (method_name file again)) && list_any (redeclares_in is_bad files file again) (superclasses files file)

-- a method of the class stands so to one of any of its superclasses; constructors and initialisers aside
abbrev pub redeclares : Redeclaration → Program → FileTree → Bool
redeclares is_bad files file = list_any (method_redeclares is_bad files file) file.methods

-- ---- catch types (JVMS 4.7.3)

-- the class that an exception entry names; 0 names none
abbrev pub catch_class : List Entry → ExceptionEntry → Option Name
catch_class pool e = if e.catch_type == 0 then None else class_name_at pool e.catch_type

abbrev pub is_no_throwable : Program → Name → Bool
is_no_throwable files name = is_array_class name || (is_some (class_of files name) && not (is_subclass files name java_lang_throwable))

-- a catch type that is found and is neither Throwable nor below it, or an array class
abbrev pub catches_no_throwable : Program → FileTree → Bool
catches_no_throwable files file =
    any_code (λ m c. list_any (λ e. option_map_or (is_no_throwable files) (catch_class file.pool e) false) c.exceptions) file

-- ---- the refusal

-- BadHierarchy: one of the conditions stands in the file
abbrev pub has_bad_hierarchy : Program → FileTree → Bool
has_bad_hierarchy files file =
    in_cycle files file
    || (extends_interface files file
    || (extends_final files file
    || (implements_class files file
    || (interface_below_other files file
    || (redeclares final_redeclared files file
    || (redeclares static_redeclared files file
    || (redeclares instance_redeclared files file
    || (redeclares redeclared_in_other_package files file
    || (redeclares redeclared_as_private files file
    || catches_no_throwable files file)))))))))
