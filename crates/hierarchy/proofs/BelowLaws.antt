-- Subclasses, by the places of classes.
use Rattle.std.proofs.Common.{◌≡◌, ◌∙◌, ℕ, zero, suc, ◌+◌, ◌-◌, ◌<◌, Bool, true, false, ◌||◌, refl, sym, ap, Option, Some, None}
use Rattle.std.specs.Option.{option_and_then, option_map_or}
use Rattle.model.specs.Names.{Name, name_eq}
use Rattle.model.specs.Tree.{FileTree}
use Rattle.model.specs.Classes.{Program, superclass_of, super_name_of, is_within}
use Rattle.hierarchy.specs.Places.{class_at, place_of, name_at}
use Rattle.hierarchy.specs.MembersAt.{superclass_place}
use Rattle.hierarchy.proofs.SetLaws.{same_name, no_class, class_at_place}
use Rattle.hierarchy.proofs.Names.{name_eq_sym}
use Rattle.hierarchy.proofs.Chains.{within_step}
use Rattle.hierarchy.proofs.UpLaws.{superclass_by_place}

unlike : (a b : Name) → (a ≡ b → ⊥) → name_eq a b ≡ false
unlike a b ne = by (name_eq a b) refl
  where
    by : (t : Bool) → name_eq a b ≡ t → name_eq a b ≡ false
    by true e = absurd (ne (same_name a b e))
    by false e = e

or_nothing : (b : Bool) → (b || false) ≡ b
or_nothing true = refl
or_nothing false = refl

module _ (files : Program) where
  -- classes at two places have two names
  pub apart : (a b : ℕ) → place_of files (name_at files a) ≡ Some a → place_of files (name_at files b) ≡ Some b → (a ≡ b → ⊥)
      → name_eq (name_at files a) (name_at files b) ≡ false
  apart a b here there ne = unlike (name_at files a) (name_at files b) (λ e. ne (one a b (sym here ∙ ap (place_of files) e ∙ there)))
    where
      one : (x y : ℕ) → Some x ≡ Some y → x ≡ y
      one x y e = cc

  -- a name that no class has isn't one that a class has
  pub absent_differs : (s d : Name) (k : ℕ) → place_of files s ≡ None → place_of files d ≡ Some k → name_eq s d ≡ false
  absent_differs s d k none there = unlike s d (λ e. not_both k (sym none ∙ ap (place_of files) e ∙ there))
    where
      not_both : (k : ℕ) → None ≡ Some k → ⊥
      not_both k e = cc

  pub present_differs : (place : ℕ) (d : Name) → place_of files (name_at files place) ≡ Some place → place_of files d ≡ None
      → name_eq (name_at files place) d ≡ false
  present_differs place d stood none = name_eq_sym (name_at files place) d ∙ absent_differs d (name_at files place) place none stood

  -- above a name of no class is nothing
  pub within_absent : (n : ℕ) (s d : Name) → place_of files s ≡ None → is_within files n s d ≡ name_eq s d
  within_absent zero s d e = refl
  within_absent (suc n) s d e =
      ap (λ (o : Option FileTree). name_eq s d || option_map_or (λ t. is_within files n t d) (option_and_then super_name_of o) false) (no_class files s e) ∙ or_nothing (name_eq s d)

  -- what the class at a place names
  pub named_above : (place : ℕ) → place_of files (name_at files place) ≡ Some place
      → superclass_of files (name_at files place) ≡ option_and_then super_name_of (class_at files place)
  named_above place stood = ap (λ (o : Option FileTree). option_and_then super_name_of o) (class_at_place files (name_at files place) place stood)

  -- a class whose superclass isn't found is below that alone
  pub within_last : (n i place : ℕ) (d : Name) → i < n → place_of files (name_at files place) ≡ Some place → superclass_place files place ≡ None
      → name_eq (name_at files place) d ≡ false
      → is_within files (n - i) (name_at files place) d ≡ option_map_or (λ s. name_eq s d) (superclass_of files (name_at files place)) false
  within_last n i place d h stood e other =
      within_step files n i (name_at files place) d h
      ∙ ap (λ b. b || option_map_or (λ s. is_within files (n - (i + 1)) s d) (superclass_of files (name_at files place)) false) other
      ∙ by (superclass_of files (name_at files place)) (sym (superclass_by_place files place stood) ∙ e)
    where
      by : (o : Option Name) → option_and_then (place_of files) o ≡ None
          → option_map_or (λ s. is_within files (n - (i + 1)) s d) o false ≡ option_map_or (λ s. name_eq s d) o false
      by None at = refl
      by (Some s) at = within_absent (n - (i + 1)) s d at

  -- it is below no other class
  pub within_nothing : (n i place k : ℕ) (d : Name) → i < n → place_of files (name_at files place) ≡ Some place
      → superclass_place files place ≡ None → name_eq (name_at files place) d ≡ false → place_of files d ≡ Some k
      → is_within files (n - i) (name_at files place) d ≡ false
  within_nothing n i place k d h stood e other there =
      within_last n i place d h stood e other ∙ by (superclass_of files (name_at files place)) (sym (superclass_by_place files place stood) ∙ e)
    where
      by : (o : Option Name) → option_and_then (place_of files) o ≡ None → option_map_or (λ s. name_eq s d) o false ≡ false
      by None at = refl
      by (Some s) at = absent_differs s d k at there
