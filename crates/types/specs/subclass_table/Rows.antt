-- Rows of bits: for each class one, with a bit for each column.
use Rattle.std.specs.Prelude.{◌≡◌, ℕ, ◌+◌, ◌*◌, ◌/◌, ◌%◌, ◌<◌, ◌++◌, List, Option, Some, Bool, false, ◌==◌, length, slice_index_or}
use Rattle.std.specs.Option.{option_map_or}
use Rattle.std.specs.Int.{bit_at}
use Rattle.model.specs.Tree.{FileTree}
use Rattle.model.specs.Names.{Name}
use Rattle.model.specs.Classes.{Program, name_of}
use Rattle.model.specs.ReferenceTypes.{is_subclass_or_implements}
use Rattle.hierarchy.specs.Places.{class_at, place_of}
use Rattle.types.specs.subclass_table.Columns.{column_in}

-- the bit of a column, in words of 64
abbrev pub has_bit : List ℕ → ℕ → Bool
has_bit row column = bit_at (slice_index_or row (column / 64) 0) (column % 64) == 1

-- a row says of each class that has a column whether its name passes a test
abbrev pub IsRow : Program → List (Option ℕ) → (Name → Bool) → List ℕ → Type 0
IsRow files columns test row = (class column : ℕ) (above : FileTree) → column_in columns class ≡ Some column → class_at files class ≡ Some above → has_bit row column ≡ test (name_of above)

-- it says so of the class at one place alone
abbrev pub IsOwnRow : List (Option ℕ) → ℕ → List ℕ → Type 0
IsOwnRow columns place row = (class column : ℕ) → column_in columns class ≡ Some column → has_bit row column ≡ (place == class)

-- the columns are of one class each, and rows of so many words have them all
pub record FitIn (columns : List (Option ℕ)) (width : ℕ) : Type 0 where
  pub within : (class column : ℕ) → column_in columns class ≡ Some column → column < width * 64
  pub apart : (class other column : ℕ) → column_in columns class ≡ Some column → column_in columns other ≡ Some column → class ≡ other

-- a row of so many words says which classes are above the one of a name
pub record IsBelowRow (files : Program) (columns : List (Option ℕ)) (width : ℕ) (class : Name) (row : List ℕ) : Type 0 where
  pub wide : length row ≡ width
  pub says : IsRow files columns (is_subclass_or_implements files class) row

-- the class at a place is above the one of a name, or is it
abbrev pub is_above_at : Program → Name → ℕ → Bool
is_above_at files class place = option_map_or (λ (above : FileTree). is_subclass_or_implements files class (name_of above)) (class_at files place) false

-- each class is found by its name
abbrev pub FindOwnPlaces : Program → Type 0
FindOwnPlaces files = (place : ℕ) (file : FileTree) → class_at files place ≡ Some file → place_of files (name_of file) ≡ Some place

-- ---- all rows one after the other, each of so many words

abbrev pub is_set_at : List ℕ → ℕ → ℕ → ℕ → Bool
is_set_at words width place column = bit_at (slice_index_or words (place * width + column / 64) 0) (column % 64) == 1

-- that of a class more
pub record HasRowMore (files : Program) (columns : List (Option ℕ)) (width : ℕ) (class : Name) (words more : List ℕ) : Type 0 where
  pub row : List ℕ
  pub is : IsBelowRow files columns width class row
  pub added : more ≡ words ++ row

-- those of the first so many classes say which classes are above each
abbrev pub AreRows : Program → List (Option ℕ) → ℕ → List ℕ → ℕ → Type 0
AreRows files columns width words count =
    (place : ℕ) (file : FileTree) → place < count → class_at files place ≡ Some file
    → (class column : ℕ) (above : FileTree) → column_in columns class ≡ Some column → class_at files class ≡ Some above
    → is_set_at words width place column ≡ is_subclass_or_implements files (name_of file) (name_of above)
