-- Ranks: a number for each class, greater than those of the classes directly above it. There are such numbers only where no
-- class is above itself (JVMS 5.3.5).
use Rattle.std.specs.Prelude.{◌≡◌, ℕ, ◌+◌, length, List, ◌||◌, Bool, false, nat_le, ◌==◌, slice_get}
use Rattle.std.specs.Option.{option_and_then, option_map_or, option_to_list}
use Rattle.std.specs.List.{list_any}
use Rattle.model.specs.Names.{Name}
use Rattle.model.specs.Tree.{FileTree}
use Rattle.model.specs.Classes.{Program, name_of, classes_of, super_name_of, interface_names}
use Rattle.model.specs.Hierarchy.{direct_supertypes}
use Rattle.hierarchy.specs.Places.{place_of}

-- the rank of the class of a name, counted from 1; a name of no class has 0
abbrev pub rank_of : Program → List ℕ → Name → ℕ
rank_of files ranks name = option_map_or (λ rank. rank) (option_and_then (slice_get ranks) (place_of files name)) 0

-- a name has this rank or a greater one
abbrev pub is_late : Program → List ℕ → ℕ → Name → Bool
is_late files ranks rank name = nat_le rank (rank_of files ranks name)

-- A class has no rank, or one that isn't below the number of classes, or what is directly above it has no smaller one.
abbrev pub is_misranked : Program → List ℕ → FileTree → Bool
is_misranked files ranks file =
    rank_of files ranks (name_of file) == 0
    || (nat_le (length (classes_of files)) (rank_of files ranks (name_of file))
    || (list_any (is_late files ranks (rank_of files ranks (name_of file))) (option_to_list (super_name_of file))
    || list_any (is_late files ranks (rank_of files ranks (name_of file))) (interface_names file)))

-- there are ranks for the classes of a program
pub record HasRanks (files : Program) : Type 0 where
  pub ranks : List ℕ
  pub ranked : list_any (is_misranked files ranks) (classes_of files) ≡ false

-- ---- ranks in a program in which classes may be above themselves

-- something directly above the class of a name has this rank or a greater one
abbrev pub is_reached : Program → List ℕ → ℕ → Name → Bool
is_reached files ranks rank class = list_any (is_late files ranks rank) (direct_supertypes files class)

-- something directly above a class has a greater rank than the class
abbrev pub rises : Program → List ℕ → FileTree → Bool
rises files ranks file = is_reached files ranks (rank_of files ranks (name_of file) + 1) (name_of file)

-- On no way up a rank is greater than one before it. So a class whose rank is greater than those directly above it isn't above
-- itself.
abbrev pub NeverRise : Program → List ℕ → Type 0
NeverRise files ranks = list_any (rises files ranks) (classes_of files) ≡ false
