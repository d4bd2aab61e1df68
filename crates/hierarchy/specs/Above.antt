-- The names that stand above the classes of a program.
use Rattle.std.specs.Prelude.{◌-◌, length, ℕ, zero, suc, List, [], ◌∷◌, ◌++◌, ◌||◌, Bool, if◌then◌else◌, map, slice_get}
use Rattle.std.specs.Option.{option_and_then, option_map_or, option_to_list}
use Rattle.std.specs.List.{flat_map, list_any}
use Rattle.model.specs.Names.{Name, name_eq}
use Rattle.model.specs.Tree.{FileTree}
use Rattle.model.specs.Classes.{Program, name_of, classes_of, superclass_of, superinterfaces_of}
use Rattle.model.specs.Hierarchy.{is_above}
use Rattle.hierarchy.specs.Places.{place_of}
use Rattle.hierarchy.specs.declared.rows.Above as declared_above
use Rattle.hierarchy.specs.declared.rows.Above.TheVariants as above

-- ---- names, each once

abbrev pub with_name : List Name → Name → List Name
with_name names name = if list_any (name_eq name) names then names else names ++ name ∷ []

abbrev pub with_names : List Name → List Name → List Name
with_names names [] = names
with_names names (name ∷ more) = with_names (with_name names name) more

-- the names of a list, each where it first stands
abbrev pub each_once : List Name → List Name
each_once names = with_names [] names

-- ---- the names above a class

-- what stands directly above a class: its superinterfaces, and last its superclass where all supertypes are meant
abbrev pub directly_above : Program → declared_above.Above → Name → List Name
directly_above files above.Interfaces class = superinterfaces_of files class
directly_above files above.Supertypes class = superinterfaces_of files class ++ option_to_list (superclass_of files class)

-- what is above a class by one step at least and by at most so many, each name before what is above it
abbrev pub names_above : (Name → List Name) → ℕ → Name → List Name
names_above next zero class = []
names_above next (suc n) class = flat_map (λ name. name ∷ names_above next n name) (next class)

-- ---- a row of names for each class, in the order of the classes

-- the row of the class of a name; a name of no class has none
abbrev pub row_of : {A : Type 0} → Program → List (List A) → Name → List A
row_of files rows name = option_map_or (λ row. row) (option_and_then (slice_get rows) (place_of files name)) []

-- for each class what is above it within so many steps, each name once
unfoldable pub rows_of : Program → declared_above.Above → ℕ → List (List Name)
rows_of files kind n = map (λ (file : FileTree). each_once (names_above (directly_above files kind) n (name_of file))) (classes_of files)

-- the rows within one step more
abbrev pub next_row : Program → declared_above.Above → List (List Name) → Name → List Name
next_row files kind rows class = each_once (flat_map (λ name. name ∷ row_of files rows name) (directly_above files kind class))

abbrev pub next_rows : Program → declared_above.Above → List (List Name) → List (List Name)
next_rows files kind rows = map (λ (file : FileTree). next_row files kind rows (name_of file)) (classes_of files)

-- the second class is the first one, or the first is above it by fewer steps than there are classes
abbrev pub leads_to : Program → Name → Name → Bool
leads_to files other class = name_eq class other || is_above files (length (classes_of files) - 1) class other
