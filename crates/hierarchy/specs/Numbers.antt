-- Names by numbers: the places at which they stand in a table.
use Rattle.std.specs.Prelude.{◌≡◌, ℕ, List, [], ◌∷◌, ◌++◌, Option, Some, map, true, nat_eq, slice_get, if◌then◌else◌}
use Rattle.std.specs.Option.{option_and_then, option_to_list}
use Rattle.std.specs.List.{flat_map, filter_map, list_any}
use Rattle.model.specs.Names.{Name, name_eq}
use Rattle.model.specs.Tree.{FileTree}
use Rattle.model.specs.Classes.{Program, name_of, classes_of, interface_names, super_name_of}
use Rattle.hierarchy.specs.Above.{with_names, each_once}

-- ---- numbers, each once

abbrev pub with_number : List ℕ → ℕ → List ℕ
with_number numbers number = if list_any (nat_eq number) numbers then numbers else numbers ++ number ∷ []

abbrev pub with_numbers : List ℕ → List ℕ → List ℕ
with_numbers numbers [] = numbers
with_numbers numbers (number ∷ more) = with_numbers (with_number numbers number) more

-- for each number the place at which it stands is written down
abbrev pub ArePlaces : List ℕ → List ℕ → Type 0
ArePlaces numbers places = (place number : ℕ) → slice_get numbers place ≡ Some number → slice_get places number ≡ Some place

-- what is written down of other numbers stays
abbrev pub KeepsOthers : ℕ → List ℕ → List ℕ → Type 0
KeepsOthers number old new = (other place : ℕ) → (other ≡ number → ⊥) → slice_get old other ≡ Some place → slice_get new other ≡ Some place

-- ---- the names that they stand for

-- the names of numbers, in their order; a number that the table doesn't have stands for none
abbrev pub names_of : List Name → List ℕ → List Name
names_of names numbers = filter_map (slice_get names) numbers

abbrev pub named_rows : List Name → List (List ℕ) → List (List Name)
named_rows names rows = map (names_of names) rows

-- no name stands at two places
abbrev pub AreApart : List Name → Type 0
AreApart names = (i j : ℕ) (name : Name) → slice_get names i ≡ Some name → slice_get names j ≡ Some name → i ≡ j

-- each of some names is one of the first
abbrev pub HasAll : List Name → List Name → Type 0
HasAll names wanted = (name : Name) → list_any (name_eq name) wanted ≡ true → list_any (name_eq name) names ≡ true

-- ---- the table of a program

-- the names of what stands directly above a class
abbrev pub direct_names : FileTree → List Name
direct_names file = interface_names file ++ option_to_list (super_name_of file)

-- the names of the classes, in their order, and then of what stands directly above them, each where it first stands
unfoldable pub names_in : Program → List Name
names_in files = with_names (each_once (map name_of (classes_of files))) (flat_map direct_names (classes_of files))

abbrev pub HasNames : Program → List Name → Type 0
HasNames files names = names ≡ names_in files

-- ---- the classes of the names

-- the place of the class of the name of a number, by the places of all of them; none for a name of no class
abbrev pub place_by : List (Option ℕ) → ℕ → Option ℕ
place_by places number = option_and_then (λ place. place) (slice_get places number)
