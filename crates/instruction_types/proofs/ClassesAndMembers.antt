-- Classes and members by their places.
use Rattle.std.proofs.Common.{◌≡◌, ℕ, Bool, true, false, not, ltb, List, [], length, map, get_or, refl, sym, ap, ◌∙◌, Option, Some, None}
use mathlib.Core.Bool.{beq}
use borrow.Author.Tests.{ltb-true}
use Rattle.std.proofs.lemmas.Option.{slice_get-map, slice_get-get_or}
use Rattle.std.specs.Prelude.{option_map, slice_get}
use Rattle.std.specs.Option.{is_none, option_map_or}
use Rattle.model.specs.Names.{Name}
use Rattle.model.specs.Tree.{FileTree, FieldTree, MethodTree}
use Rattle.model.specs.Classes.{Program, name_of, classes_of, is_named}
use Rattle.model.specs.AccessFlags.{is_static_field, is_static_method}
use Rattle.model.specs.Resolution.{is_missing}
use Rattle.hierarchy.specs.Places.{place_of, name_at}
use Rattle.hierarchy.proofs.Finding.{position_within}
use Rattle.hierarchy.proofs.SetLaws.{class_at_place, no_class, name_at_place, no_item}
use Rattle.instruction_types.specs.Places.{IsPlaceOf, is_field_of_kind, is_method_of_kind}

-- ---- names that differ

-- what a slice has at an index, by what `get` gave
pub read_at : {A B : Type 0} (f : A → B) (read : List A) (i : ℕ) (x : A) → true ≡ ltb i (length read) → x ≡ get_or read i x
    → slice_get (map f read) i ≡ Some (f x)
read_at f read i x lt is =
    slice_get-map f read i ∙ ap (option_map f) (slice_get-get_or read i x (ltb-true _ _ (sym lt)) ∙ ap Some (sym is))

-- ---- kinds of members

pub field_kind : (wants_static : Bool) (f : FieldTree) (b : Bool) → b ≡ is_static_field f
    → beq b wants_static ≡ is_field_of_kind wants_static f
field_kind true f true e = e
field_kind true f false e = e
field_kind false f true e = ap not e
field_kind false f false e = ap not e

pub method_kind : (wants_static : Bool) (m : MethodTree) (b : Bool) → b ≡ is_static_method m
    → beq b wants_static ≡ is_method_of_kind wants_static m
method_kind true m true e = e
method_kind true m false e = e
method_kind false m true e = ap not e
method_kind false m false e = ap not e

module _ (files : Program) where
  -- the place of a name has the class of the name
  pub placed : (name : Name) → IsPlaceOf files name (place_of files name)
  placed name = by (place_of files name) refl
    where
      at : (k : ℕ) → place_of files name ≡ Some k → (o : Option FileTree) → slice_get (classes_of files) k ≡ o
          → (name_at files k ≡ name) × (is_missing files name ≡ false)
      at k e None here = absurd (no_item (classes_of files) k (position_within (is_named name) (classes_of files) k e) here)
      at k e (Some file) here =
          (ap (λ o. option_map_or name_of o []) here ∙ name_at_place files name k file e here, ap is_none (class_at_place files name k e ∙ here))

      by : (o : Option ℕ) → place_of files name ≡ o → IsPlaceOf files name o
      by None e = ap is_none (no_class files name e)
      by (Some k) e = at k e (slice_get (classes_of files) k) refl
