-- Which classes have a column in a table of subclasses: those against which something is tested, in the order of the classes.
use Rattle.std.specs.Prelude.{◌≡◌, ℕ, ◌<◌, List, [], ◌∷◌, Option, Some, None, Bool, true, false, ◌==◌, is_some, length, slice_get, slice_index_or}
use Rattle.std.specs.Option.{option_and_then}
use Rattle.std.specs.List.{list_any}

-- something is tested against a class
abbrev pub is_tested : List ℕ → ℕ → Bool
is_tested tested class = list_any (λ c. c == class) tested

-- marks say so of the first so many classes
pub record AreMarks (count : ℕ) (tested : List ℕ) (marks : List Bool) : Type 0 where
  pub length : length marks ≡ count
  pub each : (class : ℕ) → class < count → slice_index_or marks class false ≡ is_tested tested class

-- the column of a class, if it has one
abbrev pub column_in : List (Option ℕ) → ℕ → Option ℕ
column_in columns class = option_and_then (λ (column : Option ℕ). column) (slice_get columns class)

-- what a class gets, where so many columns are taken
abbrev pub column_for : Bool → ℕ → Option ℕ
column_for true taken = Some taken
column_for false taken = None

abbrev pub class_for : Bool → ℕ → List ℕ
class_for true class = class ∷ []
class_for false class = []

-- each class that is marked has a column, which is of this class alone
pub record AreColumns (marks : List Bool) (columns : List (Option ℕ)) (classes : List ℕ) : Type 0 where
  pub of : (class column : ℕ) → column_in columns class ≡ Some column → slice_get classes column ≡ Some class
  pub all : (class : ℕ) → class < length marks → is_some (column_in columns class) ≡ slice_index_or marks class false
