-- Which classes of a library are added to class files (own).
use Rattle.std.specs.Prelude.{◌≡◌, ℕ, suc, List, [], ◌∷◌, Option, Some, Bool, true, find, if◌then◌else◌}
use Rattle.std.specs.List.{Contains}
use Rattle.model.specs.Names.{Name, name_eq}
use Rattle.model.specs.Tree.{FileTree}
use Rattle.model.specs.Spells.{Spells}
use Rattle.model.specs.Classes.{Program}
use Rattle.model.specs.Resolution.{is_missing}
use Rattle.library_files.specs.declared.library_class.LibraryClass as declared_class
use Rattle.library_files.specs.Needs.{needed_classes}

-- a class file of a library: the name of its class, and its bytes
pub record LibraryFile : Type 0 where
  pub name : Name
  pub bytes : List ℕ

abbrev pub library_file : declared_class.LibraryClass → LibraryFile
library_file c = record { name = c.name.now; bytes = c.bytes.now }

-- the class of a name in a library
abbrev pub in_library : List LibraryFile → Name → Option LibraryFile
in_library library name = find (λ (c : LibraryFile). name_eq c.name name) library

-- no file declares the class of a name, none is built in, and the library has one
pub record IsOffered (library : List LibraryFile) (files : Program) (name : Name) (class : LibraryFile) : Type 0 where
  pub missing : is_missing files name ≡ true
  pub there : in_library library name ≡ Some class

-- A class of the library is added where linking looks its name up for a file or for one that is added, and would find none.
pub data IsAdded (library : List LibraryFile) (files : Program) : LibraryFile → Type 0 where
  of_file : (file : FileTree) (name : Name) (class : LibraryFile)
      → Contains files file → Contains (needed_classes file) name → IsOffered library files name class → IsAdded library files class
  of_class : (other : LibraryFile) (tree : FileTree) (name : Name) (class : LibraryFile)
      → IsAdded library files other → Spells other.bytes tree → Contains (needed_classes tree) name → IsOffered library files name class
      → IsAdded library files class

-- those of a list at whose places, counted from some number on, a test holds
abbrev pub kept_at : {A : Type 0} → (ℕ → Bool) → ℕ → List A → List A
kept_at test k [] = []
kept_at test k (x ∷ xs) = if test k then x ∷ kept_at test (suc k) xs else kept_at test (suc k) xs

-- these are the classes that are added, in the order of the library
pub record AreAdded (library : List LibraryFile) (files : Program) (added : List LibraryFile) : Type 0 where
  pub only : (class : LibraryFile) → Contains added class → IsAdded library files class
  pub all : (class : LibraryFile) → IsAdded library files class → Contains added class
  pub ordered : (test : ℕ → Bool) × (added ≡ kept_at test 0 library)
