-- What is above a class, by what is above the classes directly above it. A class is settled within so many steps, where
-- further steps up from it lead no further.
use Rattle.std.proofs.Common.{◌≡◌, ◌∙◌, ℕ, zero, suc, ◌+◌, ◌≤◌, Bool, true, false, ◌||◌, List, [], ◌∷◌, ◌++◌, length, refl, sym, ap, subst, arith, Option, Some, None}
use Rattle.std.specs.Option.{option_map_or}
use Rattle.std.specs.List.{flat_map, list_any}
use Rattle.std.proofs.lemmas.List.Folds.{list_any-append}
use Rattle.model.specs.Names.{Name, name_eq}
use Rattle.model.specs.Classes.{Program, classes_of, superclass_of, superinterfaces_of, is_within, lineage_of, interfaces_from, interfaces_above}
use Rattle.model.specs.ReferenceTypes.{is_subclass_or_implements}
use Rattle.types.specs.subclass_table.Settled.{is_by_interfaces, is_below_within, IsSettled, EachOf, OfSome, IsAboveByClassesAbove}

any_flat : (p : Name → Bool) (g : Name → List Name) (xs : List Name) → list_any p (flat_map g xs) ≡ list_any (λ x. list_any p (g x)) xs
any_flat p g [] = refl
any_flat p g (x ∷ xs) = list_any-append p (g x) (flat_map g xs) ∙ ap (λ b. list_any p (g x) || b) (any_flat p g xs)

or_between : (a b c e : Bool) → ((a || b) || (c || e)) ≡ (a || (c || (b || e)))
or_between true b c e = refl
or_between false true true e = refl
or_between false true false e = refl
or_between false false true e = refl
or_between false false false e = refl

or_twice : (a b c : Bool) → (c || a) ≡ a → (a || (c || b)) ≡ (a || b)
or_twice true b c h = refl
or_twice false b true h = absurd cc
or_twice false b false h = refl

any_same : (P : Name → Type 0) (p q : Name → Bool) (xs : List Name) → EachOf P xs → ((x : Name) → P x → p x ≡ q x)
    → list_any p xs ≡ list_any q xs
any_same P p q [] all same = refl
any_same P p q (x ∷ xs) all same = ap (λ b. b || list_any p xs) (same x all.0) ∙ ap (λ b. q x || b) (any_same P p q xs all.1 same)

some_same : (P : Name → Type 0) (p q : Name → Bool) (o : Option Name) → OfSome P o → ((x : Name) → P x → p x ≡ q x)
    → option_map_or p o false ≡ option_map_or q o false
some_same P p q None of same = refl
some_same P p q (Some x) of same = same x of

module _ (files : Program) where
  pub interfaces_step : (m : ℕ) (c d : Name)
      → is_by_interfaces files (suc m) c d ≡ list_any (λ i. name_eq i d || is_by_interfaces files m i d) (superinterfaces_of files c)
  interfaces_step m c d = any_flat (λ i. name_eq i d) (interfaces_from files (suc m)) (superinterfaces_of files c)

  pub below_step : (m : ℕ) (c d : Name)
      → is_below_within files (suc m) c d ≡ (name_eq c d
      || (is_by_interfaces files (length (classes_of files)) c d ||
      option_map_or (λ s. is_below_within files m s d) (superclass_of files c) false))
  below_step m c d = by (superclass_of files c)
    where
      p : Name → Bool
      p i = name_eq i d

      by : (o : Option Name)
          → ((name_eq c d || option_map_or (λ s. is_within files m s d) o false) || list_any (λ i. name_eq i d) (interfaces_above files c
          ++ flat_map (interfaces_above files) (option_map_or (λ s. lineage_of files m s) o [])))
          ≡ (name_eq c d || (is_by_interfaces files (length (classes_of files)) c d || option_map_or (λ s. is_below_within files m s d) o
          false))
      by None =
          ap (λ b. (name_eq c d || false) || b) (list_any-append (λ i. name_eq i d) (interfaces_above files c) [])
          ∙ or_between (name_eq c d) false (is_by_interfaces files (length (classes_of files)) c d) false
      by (Some s) =
          ap (λ b. (name_eq c d || is_within files m s d) || b) (list_any-append (λ i. name_eq i d) (interfaces_above files c) (flat_map (interfaces_above files) (lineage_of files m s)))
          ∙ or_between (name_eq c d) (is_within files m s d) (is_by_interfaces files (length (classes_of files)) c d) (list_any (λ i. name_eq i d) (flat_map (interfaces_above files) (lineage_of files m s)))

  pub settled_later : (m k : ℕ) (c : Name) → m ≤ k → IsSettled files m c → IsSettled files k c
  settled_later m k c less is = record {
    interfaces = λ n d more. is.interfaces n d (omega (arith, less, more)) ∙ sym (is.interfaces k d less);
    all = λ n d more. is.all n d (omega (arith, less, more)) ∙ sym (is.all k d less);
  }

  -- a class is settled one step behind those directly above it
  pub settled_step : (m : ℕ) (c : Name) → EachOf (IsSettled files m) (superinterfaces_of files c)
      → OfSome (IsSettled files m) (superclass_of files c) → IsSettled files (suc m) c
  settled_step m c interfaces superclass = record {
    interfaces = λ n d more. interfaces_by n d more;
    all = λ n d more. all_by n d more;
  }
    where
      interfaces_by : (n : ℕ) (d : Name) → suc m ≤ n → is_by_interfaces files n c d ≡ is_by_interfaces files (suc m) c d
      interfaces_by zero d more = absurd (omega (arith, more))
      interfaces_by (suc n) d more =
          interfaces_step n c d
          ∙ any_same (IsSettled files m) (λ i. name_eq i d || is_by_interfaces files n i d) (λ i. name_eq i d || is_by_interfaces files m i d) (superinterfaces_of files c) interfaces
          (λ i is. ap (λ b. name_eq i d || b) (is.interfaces n d (omega (arith, more))))
          ∙ sym (interfaces_step m c d)

      all_by : (n : ℕ) (d : Name) → suc m ≤ n → is_below_within files n c d ≡ is_below_within files (suc m) c d
      all_by zero d more = absurd (omega (arith, more))
      all_by (suc n) d more =
          below_step n c d
          ∙ ap (λ b. name_eq c d || (is_by_interfaces files (length (classes_of files)) c d || b))
          (some_same (IsSettled files m) (λ s. is_below_within files n s d) (λ s. is_below_within files m s d) (superclass_of files c) superclass (λ s is. is.all n d (omega (arith, more))))
          ∙ sym (below_step m c d)

  -- what is asked of classes is what is so within as many steps as there are classes
  pub whole : (c d : Name) → is_subclass_or_implements files c d ≡ is_below_within files (length (classes_of files)) c d
  whole c d = or_twice (is_within files (length (classes_of files)) c d) (list_any (λ i. name_eq i d) (flat_map (interfaces_above files) (lineage_of files (length (classes_of files)) c))) (name_eq c d) (named (length (classes_of files)))
    where
      named : (n : ℕ) → (name_eq c d || is_within files n c d) ≡ is_within files n c d
      named zero = twice (name_eq c d)
        where
          twice : (b : Bool) → (b || b) ≡ b
          twice true = refl
          twice false = refl
      named (suc n) = again (name_eq c d) (option_map_or (λ s. is_within files n s d) (superclass_of files c) false)
        where
          again : (a b : Bool) → (a || (a || b)) ≡ (a || b)
          again true b = refl
          again false b = refl

  -- the row of interfaces of a class, by those of its direct superinterfaces
  pub interfaces_row : (m : ℕ) (c d : Name) → suc m ≤ length (classes_of files) → EachOf (IsSettled files m) (superinterfaces_of files c)
      → is_by_interfaces files (length (classes_of files)) c d
      ≡ list_any (λ i. name_eq i d || is_by_interfaces files (length (classes_of files)) i d) (superinterfaces_of files c)
  interfaces_row m c d few interfaces = by (length (classes_of files)) few
    where
      by : (n : ℕ) → suc m ≤ n → is_by_interfaces files n c d
          ≡ list_any (λ i. name_eq i d || is_by_interfaces files n i d) (superinterfaces_of files c)
      by zero more = absurd (omega (arith, more))
      by (suc n) more =
          interfaces_step n c d
          ∙ any_same (IsSettled files m) (λ i. name_eq i d || is_by_interfaces files n i d) (λ i. name_eq i d || is_by_interfaces files (suc n) i d) (superinterfaces_of files c) interfaces
          (λ i is. ap (λ b. name_eq i d || b) (is.interfaces n d (omega (arith, more)) ∙ sym (is.interfaces (suc n) d (omega (arith, more)))))

  -- the row of a class, by its own row of interfaces and the row of its superclass
  pub below_row : (m : ℕ) (c d : Name) → suc m ≤ length (classes_of files) → OfSome (IsSettled files m) (superclass_of files c)
      → is_subclass_or_implements files c d ≡ (name_eq c d
      || (is_by_interfaces files (length (classes_of files)) c d ||
      option_map_or (λ s. is_subclass_or_implements files s d) (superclass_of files c) false))
  below_row m c d few superclass =
      whole c d ∙ by (length (classes_of files)) few
      ∙ ap (λ b. name_eq c d || (is_by_interfaces files (length (classes_of files)) c d || b))
      (some_same (IsSettled files m) (λ s. is_below_within files (length (classes_of files)) s d) (λ s. is_subclass_or_implements files s d) (superclass_of files c) superclass (λ s is. sym (whole s d)))
    where
      by : (n : ℕ) → suc m ≤ n → is_below_within files n c d
          ≡ (name_eq c d || (is_by_interfaces files (length (classes_of files)) c d ||
          option_map_or (λ s. is_below_within files n s d) (superclass_of files c) false))
      by zero more = absurd (omega (arith, more))
      by (suc n) more =
          below_step n c d
          ∙ ap (λ b. name_eq c d || (is_by_interfaces files (length (classes_of files)) c d || b))
          (some_same (IsSettled files m) (λ s. is_below_within files n s d) (λ s. is_below_within files (suc n) s d) (superclass_of files c) superclass
          (λ s is. is.all n d (omega (arith, more)) ∙ sym (is.all (suc n) d (omega (arith, more)))))

or_split : (a b c : Bool) → (a || (b || c)) ≡ ((a || b) || c)
or_split true b c = refl
or_split false b c = refl

pub by_classes_above : IsAboveByClassesAbove
by_classes_above files m c few interfaces superclass =
    let less : suc m ≤ length (classes_of files) = omega (arith, few) in
    let one : suc m ≡ m + 1 = omega arith in (
      subst (λ n. IsSettled files n c) one (settled_step files m c interfaces superclass),
      λ d. ap (λ b. name_eq c d || b) (interfaces_row files m c d less interfaces),
      λ d. below_row files m c d less superclass
          ∙ or_split (name_eq c d) (is_by_interfaces files (length (classes_of files)) c d) (option_map_or (λ s. is_subclass_or_implements files s d) (superclass_of files c) false),
    )
