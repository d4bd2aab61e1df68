-- In which order the files of a program are handed on (own): the class whose main is run comes first.
use Rattle.std.specs.Prelude.{◌≡◌, ◌⊎◌, ℕ, ◌<◌, ◌==◌, ◌&&◌, Bool, true, false, not, List, [], ◌∷◌, map, filter, length, remove, position, slice_index_or, Option, Some, None, is_some, if◌then◌else◌, string_bytes, vec_items}
use Rattle.std.specs.List.{list_any}
use Rattle.std.specs.Option.{option_map_or}
use Rattle.std.specs.Str.{bytes_eq}
use Rattle.std.specs.declared.vec.Vec.{Vec}
use Rattle.std.specs.Global.{Global}
use Rattle.model.specs.AccessFlags.{is_static_method}
use Rattle.model.specs.Classes.{declared_in, name_of}
use Rattle.model.specs.Names.{main_of}
use Rattle.model.specs.Spells.{Spells}
use Rattle.model.specs.Tree.{FileTree}
use Rattle.program_files.specs.declared.files_fault.FilesFault.{FilesFault}
use Rattle.program_files.specs.declared.files_fault.FilesFault.TheVariants as faults
use Rattle.program_files.specs.declared.held_class.HeldClass.{HeldClass}
use Rattle.program_files.specs.Folders.{Found, Held, IsListed, Listed, Path, Reads}
use Rattle.program_files.specs.Given.{AreGiven, IsUngiven}

-- ---- the classes of files

-- the class declares a main (JVMS 5.2), which is static
abbrev pub declares_main : FileTree → Bool
declares_main file = option_map_or is_static_method (declared_in file (main_of []).name (main_of []).descriptor) false

-- its name, and whether it declares a main
pub record IsClassOf (file : FileTree) (class : HeldClass) : Type 0 where
  pub named : class.name.items ≡ name_of file
  pub mains : class.has_main ≡ declares_main file

-- these bytes are the class file of this class, or of none
abbrev pub IsHeld : List ℕ → Option HeldClass → Type 0
IsHeld bytes None = (file : FileTree) → Spells bytes file → ⊥
IsHeld bytes (Some class) = (file : FileTree) × Spells bytes file × IsClassOf file class

-- the files at these paths hold these classes, in their order
abbrev pub AreClasses : Held → List Path → List (Option HeldClass) → Type 0
AreClasses held [] classes = classes ≡ []
AreClasses held (path ∷ paths) [] = ⊥
AreClasses held (path ∷ paths) (class ∷ classes) = ((bytes : List ℕ) × Reads (held path) bytes × IsHeld bytes class) × AreClasses held paths classes

-- ---- which comes first

-- a slash for a dot, and each other byte for itself
abbrev pub slash_for : ℕ → ℕ
slash_for byte = if byte == 0x2e then 0x2f else byte

-- a name with slashes for its dots (JVMS 4.2.1)
abbrev pub slashed : List ℕ → List ℕ
slashed name = map slash_for name

-- a file holds a class of this name
abbrev pub is_named : List ℕ → Option HeldClass → Bool
is_named name None = false
is_named name (Some class) = bytes_eq class.name.items name

-- a file holds a class that declares a main
abbrev pub has_main : Option HeldClass → Bool
has_main None = false
has_main (Some class) = class.has_main

-- one of another name than the first
abbrev pub is_other_main : (first : Option HeldClass) → Option HeldClass → Bool
is_other_main None class = false
is_other_main (Some first) None = false
is_other_main (Some first) (Some class) = class.has_main && not (bytes_eq class.name.items first.name.items)

-- the names of those that declare one
abbrev pub main_names : List (Option HeldClass) → List (List ℕ)
main_names classes = map (λ class. option_map_or (λ (held : HeldClass). held.name.items) class []) (filter has_main classes)

-- the file at a place comes first, and the others behind it, in their order
pub record IsPutFirst (place : ℕ) (given ordered : List Path) : Type 0 where
  pub there : place < length given
  pub first : ordered ≡ slice_index_or given place [] ∷ remove given place

-- the file of the first class of this name comes first, and that class declares a main
pub record IsNamedFirst (held : Held) (name : List ℕ) (given ordered : List Path) : Type 0 where
  pub classes : List (Option HeldClass)
  pub are : AreClasses held given classes
  pub place : ℕ
  pub found : position (is_named (slashed name)) classes ≡ Some place
  pub mains : has_main (slice_index_or classes place None) ≡ true
  pub first : IsPutFirst place given ordered

-- the classes at this place, if there is one, and of its name are all that declare a main
abbrev pub IsOrderedBy : List (Option HeldClass) → (place : Option ℕ) → (given ordered : List Path) → Type 0
IsOrderedBy classes None given ordered = ordered ≡ given
IsOrderedBy classes (Some place) given ordered =
    (list_any (is_other_main (slice_index_or classes place None)) classes ≡ false) × IsPutFirst place given ordered

-- the file of the one class that declares a main comes first, if there is one
abbrev pub IsMainFirst : Held → (given ordered : List Path) → Type 0
IsMainFirst held given ordered = (classes : List (Option HeldClass)) × AreClasses held given classes
    × IsOrderedBy classes (position has_main classes) given ordered

-- whether the first word is a folder
abbrev pub BeginsWithFolder : Listed → (words : List Path) → Bool → Type 0
BeginsWithFolder listed [] is = is ≡ false
BeginsWithFolder listed (word ∷ words) is = (found : Found) × IsListed (listed word) found × (is ≡ is_some found)

-- behind a folder the order is by the class that declares a main
abbrev pub IsOrdered : Held → (behind_folder : Bool) → (given ordered : List Path) → Type 0
IsOrdered held false given ordered = ordered ≡ given
IsOrdered held true given ordered = IsMainFirst held given ordered

-- The files that words stand for, in the order in which they are handed on: by the class that is named, if one is.
abbrev pub AreHandedOn : Held → Listed → (main : Option (List ℕ)) → (words ordered : List Path) → Type 0
AreHandedOn held listed (Some name) words ordered = (given : List Path) × AreGiven listed words given × IsNamedFirst held name given ordered
AreHandedOn held listed None words ordered = (given : List Path) × AreGiven listed words given
    × ((behind_folder : Bool) × BeginsWithFolder listed words behind_folder × IsOrdered held behind_folder given ordered)

-- ---- why they are not

-- no class has the name that is given, or the first one declares no main
abbrev pub IsWithoutNamed : Held → (name : List ℕ) → (given : List Path) → FilesFault → Type 0
IsWithoutNamed held name given faults.Device = Unit {0}
IsWithoutNamed held name given faults.Memory = Unit {0}
IsWithoutNamed held name given (faults.Empty path) = ⊥
IsWithoutNamed held name given (faults.TooDeep path) = ⊥
IsWithoutNamed held name given (faults.Mains names) = ⊥
IsWithoutNamed held name given (faults.NoClass told) = (string_bytes told ≡ name) × ((classes : List (Option HeldClass))
    × AreClasses held given classes × (position (is_named (slashed name)) classes ≡ None))
IsWithoutNamed held name given (faults.NoMain told) = (string_bytes told ≡ name) × ((classes : List (Option HeldClass)) × (place : ℕ)
    × AreClasses held given classes × (position (is_named (slashed name)) classes ≡ Some place) × (has_main (slice_index_or classes place None) ≡ false))

-- classes of several names declare a main
abbrev pub IsWithoutMain : Held → (given : List Path) → FilesFault → Type 0
IsWithoutMain held given faults.Device = Unit {0}
IsWithoutMain held given faults.Memory = Unit {0}
IsWithoutMain held given (faults.Empty path) = ⊥
IsWithoutMain held given (faults.TooDeep path) = ⊥
IsWithoutMain held given (faults.Mains names) = (classes : List (Option HeldClass)) × (place : ℕ) × AreClasses held given classes
    × (position has_main classes ≡ Some place) × (list_any (is_other_main (slice_index_or classes place None)) classes ≡ true)
    × (map vec_items names.items ≡ main_names classes)
IsWithoutMain held given (faults.NoClass name) = ⊥
IsWithoutMain held given (faults.NoMain name) = ⊥

-- behind a folder, and else not
abbrev pub IsUnordered : Held → (behind_folder : Bool) → (given : List Path) → FilesFault → Type 0
IsUnordered held false given fault = ⊥
IsUnordered held true given fault = IsWithoutMain held given fault

-- words stand for no files, or these have no order
abbrev pub IsUnhanded : Held → Listed → (main : Option (List ℕ)) → (words : List Path) → FilesFault → Type 0
IsUnhanded held listed (Some name) words fault = IsUngiven listed words fault
    ⊎ ((given : List Path) × AreGiven listed words given × IsWithoutNamed held name given fault)
IsUnhanded held listed None words fault = IsUngiven listed words fault
    ⊎ ((given : List Path) × AreGiven listed words given
    × ((behind_folder : Bool) × BeginsWithFolder listed words behind_folder × IsUnordered held behind_folder given fault))
