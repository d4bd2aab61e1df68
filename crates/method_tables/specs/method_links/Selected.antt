-- Which method a call runs, by the class of its receiver (JVMS 6.5, invokevirtual).
use Rattle.std.specs.Prelude.{◌≡◌, ℕ, List, Option, Some, Bool, false, ◌&&◌, ◌==◌, map, slice_get, slice_index_or}
use Rattle.std.specs.Option.{option_and_then, option_map_or}
use Rattle.std.specs.Map.{lookup}
use Rattle.model.specs.Names.{Name, Member}
use Rattle.model.specs.Tree.{FileTree}
use Rattle.model.specs.Classes.{Program, name_of, classes_of, superclass_of}
use Rattle.model.specs.Lookup.{method_in_class, is_selectable}
use Rattle.hierarchy.specs.Places.{class_at, place_of}
use Rattle.constant_pool.specs.Texts.{first_place}
use Rattle.hierarchy.specs.declared.place.MemberPlace.{MemberPlace}
use Rattle.method_tables.specs.declared.method_links.selectors.Part.{Part}
use Rattle.method_tables.specs.declared.method_links.selectors.Part.TheVariants as part
use Rattle.method_tables.specs.declared.method_links.declarations.Declaration.{Declaration}
use Rattle.method_tables.specs.method_links.Methods.{methods_of, Names}

-- ---- names and descriptors by numbers

abbrev pub part_of : Part → Member → Name
part_of part.Name m = m.name
part_of part.Descriptor m = m.descriptor

-- the names of all methods, or their descriptors
abbrev pub parts_of : Part → Program → List Name
parts_of part files = map (part_of part) (methods_of files)

-- for each method the number of the first that has the same
abbrev pub firsts_of : List Name → List ℕ
firsts_of texts = map (first_place texts) texts

-- ---- superclasses by places

abbrev pub superclass_place : Program → FileTree → Option ℕ
superclass_place files file = option_and_then (place_of files) (superclass_of files (name_of file))

unfoldable pub superclass_places : Program → List (Option ℕ)
superclass_places files = map (superclass_place files) (classes_of files)

-- ---- the table

-- a method is at the place, and is neither static nor private
abbrev pub selectable_at : Program → MemberPlace → Bool
selectable_at files place = option_map_or is_selectable (option_and_then (λ (file : FileTree). slice_get file.methods place.member) (class_at files place.class)) false

-- For each method its name and its descriptor, by numbers; for each class its superclass; and the methods that classes
-- declare, without static and private ones.
pub record SelectionTable : Type 0 where
  pub names : List ℕ
  pub descriptors : List ℕ
  pub superclasses : List (Option ℕ)
  pub declared : List (Declaration × ℕ)

abbrev pub is_declaration : Declaration → Declaration → Bool
is_declaration a b = (a.class == b.class) && ((a.name == b.name) && (a.descriptor == b.descriptor))

-- a method of a number as a class at a place would declare it
abbrev pub key_of : List ℕ → List ℕ → ℕ → ℕ → Declaration
key_of names descriptors class number = record { class = class; name = slice_index_or names number 0; descriptor = slice_index_or descriptors number 0 }

-- the number of the method that it declares
abbrev pub declared_number : SelectionTable → ℕ → ℕ → Option ℕ
declared_number table class number = lookup (is_declaration (key_of table.names table.descriptors class number)) table.declared

-- the numbers are those of the methods that classes declare
abbrev pub AreDeclared : Program → List ℕ → List ℕ → List (Declaration × ℕ) → Type 0
AreDeclared files names descriptors declared =
    (class number : ℕ) (file : FileTree) (m : Member) → class_at files class ≡ Some file → slice_get (methods_of files) number ≡ Some m
    → Names files (lookup (is_declaration (key_of names descriptors class number)) declared)
    (method_in_class files is_selectable m (name_of file))

pub record AreSelectionsOf (files : Program) (table : SelectionTable) : Type 0 where
  pub superclasses : table.superclasses ≡ superclass_places files
  pub declared : AreDeclared files table.names table.descriptors table.declared
