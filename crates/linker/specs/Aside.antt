-- Which entries of a constant pool name a class aside: one that is neither the file's own nor, by the names along the chain, a
-- superclass of it (JVMS 4.9.1, invokespecial).
use Rattle.std.specs.Prelude.{List, ◌∷◌, Bool, false, not, map}
use Rattle.std.specs.Option.{option_map_or}
use Rattle.model.specs.Tree.{Entry, Unusable, FileTree}
use Rattle.model.specs.Pool.{class_name_of, method_of_entry}
use Rattle.model.specs.Classes.{Program, name_of, is_subclass}
use Rattle.model.specs.CodeConditions.{is_class_aside}

abbrev pub names_other_class : Program → FileTree → Entry → Bool
names_other_class files file e = option_map_or (λ name. not (is_subclass files (name_of file) name)) (class_name_of file.pool e) false

-- by the index of the entry
abbrev pub other_classes : Program → FileTree → List Bool
other_classes files file = map (names_other_class files file) (Unusable ∷ file.pool)

-- a Methodref to a method of such a class that is not a constructor
abbrev pub names_method_aside : Program → FileTree → Entry → Bool
names_method_aside files file e = option_map_or (is_class_aside files file) (method_of_entry file.pool e) false

abbrev pub methods_aside : Program → FileTree → List Bool
methods_aside files file = map (names_method_aside files file) (Unusable ∷ file.pool)
