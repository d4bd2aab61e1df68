-- The tables of the numbers of methods.
use Rattle.std.specs.Prelude.{◌≡◌, ℕ, zero, suc, ◌+◌, List, [], ◌∷◌, ◌++◌, Some, Bool, true, false, ◌&&◌, ◌==◌, is_some, length, map, slice_get, slice_index_or}
use Rattle.std.specs.Option.{option_map_or}
use Rattle.model.specs.Tree.{FileTree}
use Rattle.model.specs.Classes.{Program, classes_of}
use Rattle.hierarchy.specs.declared.place.MemberPlace.{MemberPlace}
use Rattle.method_tables.specs.method_links.Methods.{methods_of, member_at}

-- for each class the number of its first method, and for each number the place of the method
pub record NumberTable : Type 0 where
  pub firsts : List ℕ
  pub places : List MemberPlace

pub record AreNumbersOf (files : Program) (table : NumberTable) : Type 0 where
  -- at each number stands the place of its method
  pub numbered : map (member_at files) table.places ≡ map (λ m. Some m) (methods_of files)
  -- the numbers of a class's methods follow one another from its first
  pub placed : (place : MemberPlace) → is_some (member_at files place) ≡ true
      → slice_get table.places (slice_index_or table.firsts place.class 0 + place.member) ≡ Some place

-- ---- how they are made

-- the places of so many methods of a class, from a member on
abbrev pub places_in : ℕ → ℕ → ℕ → List MemberPlace
places_in class member zero = []
places_in class member (suc n) = record { class = class; member = member } ∷ places_in class (suc member) n

-- those of the classes from a place on
abbrev pub places_from : ℕ → List FileTree → List MemberPlace
places_from class [] = []
places_from class (file ∷ files) = places_in class 0 (length file.methods) ++ places_from (suc class) files

-- the numbers of the first methods of classes, where so many methods stand before them
abbrev pub firsts_from : ℕ → List FileTree → List ℕ
firsts_from n [] = []
firsts_from n (file ∷ files) = n ∷ firsts_from (n + length file.methods) files

unfoldable pub table_of : Program → NumberTable
table_of files = record { firsts = firsts_from 0 (classes_of files); places = places_from 0 (classes_of files) }

-- the place of a number is this one
abbrev pub is_place : MemberPlace → MemberPlace → Bool
is_place a b = (a.class == b.class) && (a.member == b.member)

abbrev pub is_at : List MemberPlace → ℕ → MemberPlace → Bool
is_at places number place = option_map_or (λ p. is_place p place) (slice_get places number) false
