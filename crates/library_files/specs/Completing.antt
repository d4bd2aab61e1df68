-- Class files that are completed from a library (own).
use Rattle.std.specs.Prelude.{◌≡◌, ◌⊎◌, Bool, List, [], ◌++◌, filter, map, Option, Some, None, ℕ}
use Rattle.std.specs.List.{list_any}
use Rattle.model.specs.Tree.{FileTree}
use Rattle.model.specs.Spells.{Spells}
use Rattle.model.specs.Classes.{Program, is_named}
use Rattle.model.specs.Linkable.{AreSpelled}
use Rattle.class_tree.specs.declared.tree.ClassFile.{ClassFile}
use Rattle.class_tree.specs.View.{file_of}
use Rattle.library_files.specs.Adding.{LibraryFile, AreAdded}

-- the tree of this class is the one that the bytes spell; or they spell none
abbrev pub IsClassOf : List ℕ → Option ClassFile → Type 0
IsClassOf bytes (Some class) = Spells bytes (file_of class) × ((tree : FileTree) → Spells bytes tree → tree ≡ file_of class)
IsClassOf bytes None = (tree : FileTree) → Spells bytes tree → ⊥

-- the trees of these classes are those that the files spell; or some file spells none
abbrev pub AreClassesOf : List (List ℕ) → Option (List ClassFile) → Type 0
AreClassesOf files (Some classes) = AreSpelled files (map file_of classes)
AreClassesOf files None = (trees : Program) → AreSpelled files trees → ⊥

-- these classes of a library are added to files: none where a file is no class file
abbrev pub AreAddedTo : List LibraryFile → (given : List (List ℕ)) → List LibraryFile → Type 0
AreAddedTo library given added = ((trees : Program) × AreSpelled given trees × AreAdded library trees added)
    ⊎ (((trees : Program) → AreSpelled given trees → ⊥) × (added ≡ []))

abbrev pub bytes_of_added : List LibraryFile → List (List ℕ)
bytes_of_added added = map (λ (c : LibraryFile). c.bytes) added

-- these are the files that are given, and behind them those of the classes that are added to them
abbrev pub IsCompleted : List LibraryFile → (given whole : List (List ℕ)) → Type 0
IsCompleted library given whole = (added : List LibraryFile) × AreAddedTo library given added × (whole ≡ given ++ bytes_of_added added)

-- ---- classes in the place of the library's

-- a class file has the name of a class
abbrev pub has_own : Program → LibraryFile → Bool
has_own files class = list_any (is_named class.name) files

-- the classes of a library in whose place class files have their own
abbrev pub own_classes : Program → List LibraryFile → List LibraryFile
own_classes files library = filter (has_own files) library

-- these are they, of files by their bytes: none where a file is no class file
abbrev pub AreOwnOf : List LibraryFile → (given : List (List ℕ)) → List LibraryFile → Type 0
AreOwnOf library given own = ((trees : Program) × AreSpelled given trees × (own ≡ own_classes trees library))
    ⊎ (((trees : Program) → AreSpelled given trees → ⊥) × (own ≡ []))
