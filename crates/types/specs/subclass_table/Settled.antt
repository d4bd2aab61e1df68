-- What is above a class, by what is above the classes directly above it (JVMS 2.4). A class is settled within so many steps,
-- where further steps up from it lead no further.
use Rattle.std.specs.Prelude.{◌≡◌, ℕ, ◌+◌, ◌<◌, ◌≤◌, List, [], ◌∷◌, Option, Some, None, Bool, false, ◌||◌, length}
use Rattle.std.specs.Option.{option_map_or}
use Rattle.std.specs.List.{flat_map, list_any}
use Rattle.model.specs.Names.{Name, name_eq}
use Rattle.model.specs.Classes.{Program, classes_of, superclass_of, superinterfaces_of, is_within, lineage_of, interfaces_from, interfaces_above}
use Rattle.model.specs.ReferenceTypes.{is_subclass_or_implements}

-- the second class is above the first one by superinterfaces alone, within so many steps behind the first
abbrev pub is_by_interfaces : Program → ℕ → Name → Name → Bool
is_by_interfaces files m c d = list_any (λ i. name_eq i d) (flat_map (interfaces_from files m) (superinterfaces_of files c))

-- it is the first one, or above it, by at most so many superclasses
abbrev pub is_below_within : Program → ℕ → Name → Name → Bool
is_below_within files m c d = is_within files m c d || list_any (λ i. name_eq i d) (flat_map (interfaces_above files) (lineage_of files m c))

-- more than so many steps lead no further up from a class
pub record IsSettled (files : Program) (m : ℕ) (c : Name) : Type 0 where
  pub interfaces : (n : ℕ) (d : Name) → m ≤ n → is_by_interfaces files n c d ≡ is_by_interfaces files m c d
  pub all : (n : ℕ) (d : Name) → m ≤ n → is_below_within files n c d ≡ is_below_within files m c d

-- it is so of each of the names
abbrev pub EachOf : (Name → Type 0) → List Name → Type 0
EachOf P [] = Unit {0}
EachOf P (x ∷ xs) = P x × EachOf P xs

abbrev pub OfSome : (Name → Type 0) → Option Name → Type 0
OfSome P None = Unit {0}
OfSome P (Some x) = P x

-- the class itself, or above it by superinterfaces alone
abbrev pub is_near : Program → Name → Name → Bool
is_near files c d = name_eq c d || is_by_interfaces files (length (classes_of files)) c d

-- Where what is directly above a class is settled within so many steps, and there are more classes, the class is settled one
-- step later; and what is above it is itself, what is above its direct superinterfaces by superinterfaces alone, and what is
-- above its superclass.
abbrev pub IsAboveByClassesAbove : Type 0
IsAboveByClassesAbove =
    (files : Program) (steps : ℕ) (c : Name) → steps < length (classes_of files)
    → EachOf (IsSettled files steps) (superinterfaces_of files c) → OfSome (IsSettled files steps) (superclass_of files c)
    → IsSettled files (steps + 1) c
    × ((d : Name) → is_near files c d ≡ (name_eq c d || list_any (λ i. is_near files i d) (superinterfaces_of files c)))
    × ((d : Name) → is_subclass_or_implements files c d
    ≡ (is_near files c d || option_map_or (λ s. is_subclass_or_implements files s d) (superclass_of files c) false))
