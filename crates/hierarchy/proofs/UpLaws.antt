-- Ways up along superclasses, by the places of classes.
use Rattle.std.proofs.Common.{◌≡◌, ◌∙◌, ℕ, zero, suc, ◌-◌, ◌<◌, refl, sym, ap, Option, Some, None}
use Rattle.std.specs.Option.{option_and_then}
use Rattle.model.specs.Names.{Name, Member}
use Rattle.model.specs.Tree.{FileTree}
use Rattle.model.specs.Classes.{Program, class_of, superclass_of, super_name_of, lineage_of}
use Rattle.model.specs.Lookup.{first_found}
use Rattle.hierarchy.specs.Places.{place_of, name_at}
use Rattle.hierarchy.specs.MembersAt.{superclass_place}
use Rattle.hierarchy.proofs.SetLaws.{class_at_place, no_class}
use Rattle.hierarchy.proofs.LineageLaws.{named_at}
use Rattle.hierarchy.proofs.Chains.{lineage_step}

module _ (files : Program) where
  -- the direct superclass of the class of a name, by its place
  pub superclass_by_place : (place : ℕ) → place_of files (name_at files place) ≡ Some place
      → superclass_place files place ≡ option_and_then (place_of files) (superclass_of files (name_at files place))
  superclass_by_place place stood =
      ap (λ (o : Option FileTree). option_and_then (place_of files) (option_and_then super_name_of o)) (sym (class_at_place files (name_at files place) place stood))

  -- one step up
  pub record IsUp (place next : ℕ) : Type 0 where
    pub above : superclass_of files (name_at files place) ≡ Some (name_at files next)
    pub stood : place_of files (name_at files next) ≡ Some next

  pub one_up : (place next : ℕ) → place_of files (name_at files place) ≡ Some place → superclass_place files place ≡ Some next
      → IsUp place next
  one_up place next stood e = by (superclass_of files (name_at files place)) refl (sym (superclass_by_place place stood) ∙ e)
    where
      by : (o : Option Name) → superclass_of files (name_at files place) ≡ o → option_and_then (place_of files) o ≡ Some next
          → IsUp place next
      by None q at = absurd cc
      by (Some s) q at =
          let named : name_at files next ≡ s = named_at files s next at in
          record { above = q ∙ ap Some (sym named); stood = ap (place_of files) named ∙ at }

  pub stood_at : (class : Name) (place : ℕ) → place_of files class ≡ Some place → place_of files (name_at files place) ≡ Some place
  stood_at class place e = ap (place_of files) (named_at files class place e) ∙ e

  -- what a class itself has is found first
  pub found_first : (found : Name → Option Member) (n i : ℕ) (c : Name) (m : Member) → i < n → found c ≡ Some m
      → first_found found (lineage_of files (n - i) c) ≡ Some m
  found_first found n i c m h e = rw (lineage_step files n i c h, e) refl

  -- ---- the first that is found on a way up, where a name of no class has none

  module _ (found : Name → Option Member) (absent : (c : Name) → class_of files c ≡ None → found c ≡ None) where
    pub none_above : (n : ℕ) (c : Name) → place_of files c ≡ None → first_found found (lineage_of files n c) ≡ None
    none_above zero c e = refl
    none_above (suc n) c e =
        let class = no_class files c e in
        rw (absent c class, class) refl

    pub none_further : (n place : ℕ) → place_of files (name_at files place) ≡ Some place → superclass_place files place ≡ None
        → found (name_at files place) ≡ None → first_found found (lineage_of files n (name_at files place)) ≡ None
    none_further zero place stood e none = refl
    none_further (suc n) place stood e none =
        by (superclass_of files (name_at files place)) refl (sym (superclass_by_place place stood) ∙ e)
      where
        by : (o : Option Name) → superclass_of files (name_at files place) ≡ o → option_and_then (place_of files) o ≡ None
            → first_found found (lineage_of files (suc n) (name_at files place)) ≡ None
        by None q at = rw (none, q) refl
        by (Some s) q at = rw (none, q) (none_above n s at)
