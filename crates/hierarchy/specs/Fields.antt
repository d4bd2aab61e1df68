-- Programs whose superinterfaces are flat, and the rows that look-ups go through.
use Rattle.std.specs.Prelude.{◌≡◌, ℕ, ◌-◌, suc, length, List, [], ◌∷◌, Option, map, Bool, true, false, not}
use Rattle.std.specs.Option.{option_map_or}
use Rattle.std.specs.List.{list_any}
use Rattle.model.specs.Names.{Name, name_eq, java_lang_object}
use Rattle.model.specs.Tree.{FileTree}
use Rattle.model.specs.Classes.{Program, classes_of, superclass_of, interface_names}
use Rattle.hierarchy.specs.declared.rows.Above.TheVariants as above
use Rattle.hierarchy.specs.Above.{rows_of}
use Rattle.hierarchy.specs.Places.{place_of}
use Rattle.hierarchy.specs.Numbers.{named_rows, HasNames}
use Rattle.hierarchy.specs.Ranks.{HasRanks}

-- the class of a name has a superclass, and that isn't Object
abbrev pub is_below_other : Program → Name → Bool
is_below_other files name = option_map_or (λ s. not (name_eq s java_lang_object)) (superclass_of files name) false

-- a direct superinterface of a class has a superclass that isn't Object
abbrev pub has_interface_below_other : Program → FileTree → Bool
has_interface_below_other files file = list_any (is_below_other files) (interface_names file)

-- No class is above itself, and no superinterface has a superclass but Object: no field that a superinterface's
-- superclass declares can be found.
pub record SuperinterfacesAreFlat (files : Program) : Type 0 where
  pub ranked : HasRanks files
  pub flat : list_any (has_interface_below_other files) (classes_of files) ≡ false

-- The rows of all supertypes. None are kept only where superinterfaces are flat.
abbrev pub HasSupertypes : Program → List (List Name) → Type 0
HasSupertypes files [] = SuperinterfacesAreFlat files
HasSupertypes files (row ∷ rows) = row ∷ rows ≡ rows_of files above.Supertypes (length (classes_of files) - 1)

-- The rows that look-ups go through: the superinterfaces of each class without those of its superclasses, and all that
-- is above each class; and whether superinterfaces are known to be flat.
pub record HasRows (files : Program) (interfaces supertypes : List (List Name)) (flat : Bool) : Type 0 where
  pub by_interfaces : interfaces ≡ rows_of files above.Interfaces (suc (length (classes_of files)))
  pub by_supertypes : HasSupertypes files supertypes
  pub by_flat : flat ≡ true → SuperinterfacesAreFlat files

-- The rows, by numbers of a table of names, and the places of the classes of these names.
pub record HasNamedRows (files : Program) (names : List Name) (places : List (Option ℕ)) (interfaces supertypes : List (List ℕ)) (flat : Bool) : Type 0 where
  pub has_names : HasNames files names
  pub has_places : places ≡ map (place_of files) names
  pub rows : HasRows files (named_rows names interfaces) (named_rows names supertypes) flat
