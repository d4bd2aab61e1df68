-- Classes by their places, and as what they count.
use Rattle.std.proofs.Common.{◌≡◌, ℕ, Option, Some, None, true, false, cond, refl, sym, ap, ◌∙◌}
use Rattle.std.specs.Prelude.{[], slice_get}
use Rattle.std.specs.Option.{is_none, option_map_or}
use Rattle.model.specs.Names.{Name, java_lang_object}
use Rattle.model.specs.Tree.{FileTree}
use Rattle.model.specs.Classes.{Program, name_of, classes_of, is_named, is_interface}
use Rattle.model.specs.Resolution.{is_missing}
use Rattle.model.specs.ReferenceTypes.{ClassType}
use Rattle.model.specs.DescribedTypes.{made_type}
use Rattle.hierarchy.specs.Places.{place_of, name_at}
use Rattle.hierarchy.proofs.SetLaws.{class_at_place, no_class, name_at_place, no_item}
use Rattle.hierarchy.proofs.Finding.{position_within}
use Rattle.types.proofs.Classes.{object_at}

module _ (files : Program) where
  pub made_interface : (c : Name) → is_interface files c ≡ true → ClassType (name_at files 0) ≡ made_type files (ClassType c)
  made_interface c h = ap (λ n. ClassType n) (object_at files) ∙ sym (ap (λ b. ClassType (cond b java_lang_object c)) h)

  pub made_itself : (c : Name) → is_interface files c ≡ false → ClassType c ≡ made_type files (ClassType c)
  made_itself c h = sym (ap (λ b. ClassType (cond b java_lang_object c)) h)

  pub missing_there : (name : Name) → place_of files name ≡ None → is_missing files name ≡ true
  missing_there name e = ap is_none (no_class files name e)

  -- the place of a name has the class of the name
  pub named_there : (name : Name) (k : ℕ) → place_of files name ≡ Some k → (name_at files k ≡ name) × (is_missing files name ≡ false)
  named_there name k e = by (slice_get (classes_of files) k) refl
    where
      by : (o : Option FileTree) → slice_get (classes_of files) k ≡ o → (name_at files k ≡ name) × (is_missing files name ≡ false)
      by None at = absurd (no_item (classes_of files) k (position_within (is_named name) (classes_of files) k e) at)
      by (Some file) at =
          (ap (λ o. option_map_or name_of o []) at ∙ name_at_place files name k file e at, ap is_none (class_at_place files name k e ∙ at))
