-- Files that link have their superclasses.
use Rattle.std.proofs.Common.{◌≡◌, ℕ, zero, suc, ◌+◌, ◌≤◌, length, drop, arith, List, [], ◌∷◌, Option, Some, None, Bool, true, false, ◌||◌, cond, refl, sym, ap, ◌∙◌, subst}
use Rattle.std.specs.Prelude.{find, is_some, is_none, slice_get}
use Rattle.std.specs.Option.{option_and_then, option_map_or}
use Rattle.std.specs.List.{list_any}
use Rattle.std.proofs.Math.ListN.{drop_of_length-le}
use Rattle.std.proofs.lemmas.Bool.{or_parts, or_from}
use Rattle.std.proofs.lemmas.List.Folds.{list_any-append}
use Rattle.std.proofs.lemmas.Option.{same_Some}
use Rattle.model.specs.Tree.{FileTree}
use Rattle.model.specs.BuiltIn.{built_in_classes}
use Rattle.model.specs.Classes.{Program, super_name_of, classes_of, is_named, class_of}
use Rattle.model.specs.Resolution.{is_missing, superclass_missing, is_unresolved}
use Rattle.model.specs.Linkable.{stands, Unresolved}
use Rattle.types.specs.Superclasses.{HasSuperclasses}

module _ {A : Type 0} where
  -- what is found is none of those that a list has none of
  found_is_not : (p q : A → Bool) (xs : List A) (x : A) → list_any q xs ≡ false → find p xs ≡ Some x → q x ≡ false
  found_is_not p q [] x h e = absurd cc
  found_is_not p q (y ∷ ys) x h e = by (p y) e (λ g. found_is_not p q ys x (or_parts (q y) _ h).1 g)
    where
      by : (c : Bool) → cond c (Some y) (find p ys) ≡ Some x → (find p ys ≡ Some x → q x ≡ false) → q x ≡ false
      by true e rest = ap q (sym (same_Some y x e)) ∙ (or_parts (q y) _ h).0
      by false e rest = rest e

module _ (files : Program) where
  none_missing : (some : List FileTree) → list_any (is_unresolved files) some ≡ false → list_any (superclass_missing files) some ≡ false
  none_missing [] e = refl
  none_missing (k ∷ ks) e =
      let both = or_parts (is_unresolved files k) _ e in
      or_from (superclass_missing files k) _ (or_parts (superclass_missing files k) _ both.0).0 (none_missing ks both.1)

  built_in_found : list_any (superclass_missing files) built_in_classes ≡ false
  unfolding built_in_classes
  built_in_found = refl

  pub all_found : list_any (superclass_missing files) (classes_of files) ≡ false → HasSuperclasses files
  all_found none c s e = by (class_of files c) refl e
    where
      is_there : (o : Option FileTree) → is_none o ≡ false → is_some o ≡ true
      is_there None q = sym q
      is_there (Some k) q = refl

      by : (o : Option FileTree) → class_of files c ≡ o → option_and_then super_name_of o ≡ Some s → is_some (class_of files s) ≡ true
      by None q e = absurd cc
      by (Some file) q e =
          let found = found_is_not (is_named c) (superclass_missing files) (classes_of files) file none q in
          is_there (class_of files s) (sym (ap (λ o. option_map_or (is_missing files) o false) e) ∙ found)

  pub superclasses_found : stands files Unresolved ≡ false → HasSuperclasses files
  superclasses_found linked = all_found (list_any-append (superclass_missing files) built_in_classes files ∙ or_from _ _ built_in_found (none_missing files linked))

-- ---- a walk over a list

module _ {A : Type 0} (q : A → Bool) where
  any_here : (xs : List A) (i : ℕ) → list_any q (drop i xs) ≡ (option_map_or q (slice_get xs i) false || list_any q (drop (suc i) xs))
  any_here [] zero = refl
  any_here [] (suc i) = refl
  any_here (x ∷ xs) zero = refl
  any_here (x ∷ xs) (suc i) = any_here xs i

  pub any_next : (xs : List A) (i : ℕ) (b z : Bool) → b ≡ option_map_or q (slice_get xs i) false → b ≡ false → list_any q (drop i xs) ≡ z
      → list_any q (drop (i + 1) xs) ≡ z
  any_next xs i b z e f h =
      let n : suc i ≡ i + 1 = omega arith in
      subst (λ m. list_any q (drop m xs) ≡ z) n (sym (ap (λ v. v || list_any q (drop (suc i) xs)) (sym e ∙ f)) ∙ sym (any_here xs i) ∙ h)

  pub any_met : (xs : List A) (i : ℕ) (b z : Bool) → b ≡ option_map_or q (slice_get xs i) false → b ≡ true → list_any q (drop i xs) ≡ z
      → z ≡ true
  any_met xs i b z e f h = sym h ∙ any_here xs i ∙ ap (λ v. v || list_any q (drop (suc i) xs)) (sym e ∙ f)

  pub any_over : (xs : List A) (i : ℕ) (z : Bool) → length xs ≤ i → list_any q (drop i xs) ≡ z → z ≡ false
  any_over xs i z l h = sym h ∙ ap (λ ys. list_any q ys) (drop_of_length-le xs l)
