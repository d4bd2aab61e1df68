-- The texts of string constants (JVMS 4.4.3, 5.1): a program has one String object for each.
use Rattle.std.specs.Prelude.{ℕ, List, [], ◌∷◌, ◌++◌, Bool, not, codes}
use Rattle.std.specs.List.{filter, filter_map, flat_map}
use Rattle.model.specs.Names.{name_eq}
use Rattle.model.specs.Tree.{FileTree}
use Rattle.model.specs.Pool.{string_of}
use Rattle.model.specs.BuiltIn.{built_in_classes}
use Rattle.model.specs.Classes.{Program}

abbrev pub is_other_text : List ℕ → List ℕ → Bool
is_other_text text other = not (name_eq text other)

-- each text once, where it stands first
abbrev pub distinct : List (List ℕ) → List (List ℕ)
distinct [] = []
distinct (text ∷ texts) = text ∷ filter (is_other_text text) (distinct texts)

-- the texts of the String entries of a file's constant pool
abbrev pub texts_in : FileTree → List (List ℕ)
texts_in file = filter_map (string_of file.pool) file.pool

-- those of the files, in their order, each once
abbrev pub file_texts : Program → List (List ℕ)
file_texts files = distinct (flat_map texts_in files)

-- the name of the first thread
abbrev pub main_text : List ℕ
main_text = codes "main"

-- what a division by zero tells
abbrev pub division_text : List ℕ
division_text = codes "/ by zero"

-- those of Strings that the machine itself gives (own): the name of the first thread, and what a division by zero tells
abbrev pub machine_texts : List (List ℕ)
machine_texts = main_text ∷ division_text ∷ []

-- those of a program: of the files, then of the built-in classes, then of the machine, each once
abbrev pub string_texts : Program → List (List ℕ)
string_texts files = distinct (flat_map texts_in files ++ (flat_map texts_in built_in_classes ++ machine_texts))
