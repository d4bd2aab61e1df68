-- Component types by numbers (JVMS 6.5 anewarray): all that class constants name, each once.
use Rattle.std.specs.Prelude.{◌≡◌, ◌⊎◌, ◌+◌, ◌<◌, ◌≤◌, ◌^◌, ℕ, List, [], ◌∷◌, Some, Bool, true, false, length, slice_get}
use Rattle.std.specs.List.{list_any}
use Rattle.model.specs.Names.{Name, name_eq, java_lang_string}
use Rattle.model.specs.Tree.{Entry, FileTree}
use Rattle.model.specs.Pool.{class_name_at}
use Rattle.model.specs.Classes.{Program}
use Rattle.model.specs.DescribedTypes.{type_named}
use Rattle.hierarchy.specs.Places.{class_at}
use Rattle.types.specs.described_types.Described.{type_missing}
use Rattle.linked_code.specs.declared.types.LinkedType.{LinkedType}
use Rattle.linked_code.specs.Numbers.{IsType, IsTypeAt}
use Rattle.linker.specs.declared.linked_types.components.Components.{Components}

abbrev pub is_among : Name → List Name → Bool
is_among name names = list_any (name_eq name) names

-- each name has its type
abbrev pub AreTypesOf : Program → List Name → List LinkedType → Type 0
AreTypesOf files [] [] = Unit {0}
AreTypesOf files (name ∷ names) (t ∷ types) = IsType files t (type_named name) × AreTypesOf files names types
AreTypesOf files [] (t ∷ types) = ⊥
AreTypesOf files (name ∷ names) [] = ⊥

-- what the Class of an index names is among them, if its class, or that of an array's elements, is found
abbrev pub HasNamed : Program → FileTree → ℕ → Components → Type 0
HasNamed files file index components = (name : Name) → class_name_at file.pool index ≡ Some name → type_missing files (type_named name) ≡ false → is_among name components.names ≡ true

-- no name stands twice
abbrev pub AreOnce : List Name → Type 0
AreOnce [] = Unit {0}
AreOnce (name ∷ names) = (is_among name names ≡ false) × AreOnce names

-- a Class of a file, or of the program, names it
abbrev pub IsInPool : FileTree → Name → Type 0
IsInPool file name = (index : ℕ) × (class_name_at file.pool index ≡ Some name)

abbrev pub IsInProgram : Program → Name → Type 0
IsInProgram files name = (class : ℕ) × (file : FileTree) × (class_at files class ≡ Some file) × IsInPool file name

pub record AreComponents (files : Program) (components : Components) : Type 0 where
  pub types : AreTypesOf files components.names components.types.items
  pub named : (class index : ℕ) (file : FileTree) → index < 2 ^ 16 → class_at files class ≡ Some file → HasNamed files file index components
  pub once : AreOnce components.names
  pub only : (name : Name) → is_among name components.names ≡ true → (name ≡ java_lang_string) ⊎ IsInProgram files name
  pub string : slice_get components.names 0 ≡ Some java_lang_string
  pub few : length components.types.items < 2 ^ 32

-- the number of the type that the Class of an index names
pub record IsComponentOperand (files : Program) (types : List LinkedType) (pool : List Entry) (index number : ℕ) : Type 0 where
  pub name : Name
  pub named : class_name_at pool index ≡ Some name
  pub numbered : IsTypeAt files types number (type_named name)

-- so many types are added at most, each with its name; those that were there keep their numbers
pub record Grows (files : Program) (old new : Components) (most : ℕ) : Type 0 where
  pub types : AreTypesOf files old.names old.types.items → AreTypesOf files new.names new.types.items
  pub once : AreOnce old.names → AreOnce new.names
  pub kept : (name : Name) → is_among name old.names ≡ true → is_among name new.names ≡ true
  pub first : (name : Name) → slice_get old.names 0 ≡ Some name → slice_get new.names 0 ≡ Some name
  pub few : length new.types.items ≤ length old.types.items + most

-- no names but such are added
abbrev pub AddsOnly : Components → Components → (Name → Type 0) → Type 0
AddsOnly old new Is = (name : Name) → is_among name new.names ≡ true → (is_among name old.names ≡ true) ⊎ Is name
