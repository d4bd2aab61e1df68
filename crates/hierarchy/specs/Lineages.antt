-- A table of how each class stands below its superclasses, by places, with skips by which many of them are passed at once.
use Rattle.std.specs.Prelude.{◌≡◌, ◌<◌, ◌-◌, ℕ, zero, suc, length, List, Option, Some, Bool, true, false, ◌&&◌, ◌||◌, ◌==◌, nat_lt, slice_get}
use Rattle.std.specs.Option.{option_and_then, option_map_or}
use Rattle.model.specs.Names.{Name}
use Rattle.model.specs.Tree.{FileTree}
use Rattle.model.specs.Classes.{Program, name_of, super_name_of, classes_of, superclass_of}
use Rattle.hierarchy.specs.Places.{class_at, place_of, name_at}
use Rattle.hierarchy.specs.declared.lineage.Lineage.{Lineage}

-- how many superclasses the class at a place has, by the table
abbrev pub depth_in : List Lineage → ℕ → ℕ
depth_in table place = option_map_or (λ (l : Lineage). l.depth) (slice_get table place) 0

-- the place of its direct superclass
abbrev pub superclass_in : List Lineage → ℕ → ℕ
superclass_in table place = option_map_or (λ (l : Lineage). l.superclass) (slice_get table place) place

-- the place of the superclass that its skip leads to
abbrev pub skip_in : List Lineage → ℕ → ℕ
skip_in table place = option_map_or (λ (l : Lineage). l.skip) (slice_get table place) place

-- ---- what is so of a table

-- the class of a name stands at this place
abbrev pub stands_at : Program → ℕ → Name → Bool
stands_at files place name = option_map_or (λ p. p == place) (place_of files name) false

-- a class without a superclass: its skip leads nowhere
abbrev pub is_root : List Lineage → ℕ → Bool
is_root table place = depth_in table place == 0 && skip_in table place == place

-- A skip leads to the direct superclass, or from there over two skips.
abbrev pub is_skip : List Lineage → ℕ → ℕ → Bool
is_skip table place superclass = skip_in table place == superclass || skip_in table place == skip_in table (skip_in table superclass)

-- a class with a direct superclass of a name: that has one superclass less
abbrev pub is_directly_below : Program → List Lineage → ℕ → Name → Bool
is_directly_below files table place name =
    stands_at files (superclass_in table place) name
    && (nat_lt (superclass_in table place) (length table)
    && (depth_in table place == suc (depth_in table (superclass_in table place))
    && is_skip table place (superclass_in table place)))

-- the file at a place is the class of its name, and its superclasses are as the table says
abbrev pub has_lineage : Program → List Lineage → ℕ → FileTree → Bool
has_lineage files table place file =
    stands_at files place (name_of file)
    && (nat_lt (depth_in table place) (length (classes_of files))
    && option_map_or (is_directly_below files table place) (super_name_of file) (is_root table place))

-- it is so of each class that the table has; the empty table has none
abbrev pub HasLineages : Program → List Lineage → Type 0
HasLineages files table =
    (place : ℕ) → place < length table → option_map_or (has_lineage files table place) (class_at files place) false ≡ true

-- ---- going up

-- the class that is above another by so many steps
abbrev pub class_above : Program → ℕ → Name → Option Name
class_above files zero class = Some class
class_above files (suc n) class = option_and_then (λ s. class_above files n s) (superclass_of files class)

-- At the second place stands the class above that at the first that has so many superclasses; the same class, where that has
-- no more.
pub record IsRaised (files : Program) (table : List Lineage) (depth place raised : ℕ) : Type 0 where
  pub within : raised < length table
  pub above : class_above files (depth_in table place - depth) (name_at files place) ≡ Some (name_at files raised)

-- At two places stand classes that have as many superclasses.
pub record IsLevel (table : List Lineage) (first second : ℕ) : Type 0 where
  pub of_first : first < length table
  pub of_second : second < length table
  pub level : depth_in table first ≡ depth_in table second
