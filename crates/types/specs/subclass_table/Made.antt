-- Rows of classes that are made by those of the classes directly above them.
use Rattle.std.specs.Prelude.{◌≡◌, ℕ, List, Option, Some, None, Bool, false, ◌||◌, length, slice_get}
use Rattle.std.specs.Option.{option_map_or}
use Rattle.std.specs.List.{list_any}
use Rattle.model.specs.Names.{Name, name_eq}
use Rattle.model.specs.Tree.{FileTree}
use Rattle.model.specs.Classes.{Program, name_of, super_name_of, interface_names}
use Rattle.model.specs.ReferenceTypes.{is_subclass_or_implements}
use Rattle.hierarchy.specs.Places.{class_at}
use Rattle.types.specs.declared.subclass_table.class_rows.ClassRows.{ClassRows}
use Rattle.types.specs.subclass_table.Rows.{IsRow}
use Rattle.types.specs.subclass_table.Settled.{IsSettled, EachOf, OfSome, is_near}

-- the rows of a class that is settled within so many steps
pub record IsMade (files : Program) (columns : List (Option ℕ)) (width steps : ℕ) (class : Name) (rows : ClassRows) : Type 0 where
  pub settled : IsSettled files steps class
  pub near_wide : length rows.near.items ≡ width
  pub below_wide : length rows.below.items ≡ width
  pub near : IsRow files columns (is_near files class) rows.near.items
  pub below : IsRow files columns (is_subclass_or_implements files class) rows.below.items

-- rows of the class at a place, if they are made
abbrev pub AreRowsAt : Program → List (Option ℕ) → ℕ → ℕ → ℕ → Option ClassRows → Type 0
AreRowsAt files columns width steps place None = Unit {0}
AreRowsAt files columns width steps place (Some rows) = (file : FileTree) → class_at files place ≡ Some file → IsMade files columns width steps (name_of file) rows

-- for each class its rows, if they are made
abbrev pub AreMade : Program → List (Option ℕ) → ℕ → ℕ → List (Option ClassRows) → Type 0
AreMade files columns width steps made = (place : ℕ) (rows : Option ClassRows) → slice_get made place ≡ Some rows → AreRowsAt files columns width steps place rows

-- ---- the parts

-- the row of a class itself and of what is above its direct superinterfaces, which are settled
pub record IsNearRow (files : Program) (columns : List (Option ℕ)) (steps : ℕ) (file : FileTree) (row : List ℕ) : Type 0 where
  pub settled : EachOf (IsSettled files steps) (interface_names file)
  pub says : IsRow files columns (λ d. name_eq (name_of file) d || list_any (λ i. is_near files i d) (interface_names file)) row

-- a row to which that of the superclass was added, which is settled
pub record IsWithSuperclass (files : Program) (columns : List (Option ℕ)) (steps : ℕ) (file : FileTree) (test : Name → Bool)
    (row : List ℕ) : Type 0 where
  pub settled : OfSome (IsSettled files steps) (super_name_of file)
  pub says : IsRow files columns (λ d. test d || option_map_or (λ s. is_subclass_or_implements files s d) (super_name_of file) false) row
