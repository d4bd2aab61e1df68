-- Ways that lead back to a class.
use Rattle.std.proofs.Common.{◌≡◌, ℕ, zero, suc, ◌+◌, ◌<◌, ◌≤◌, Bool, true, false, ◌||◌, List, [], ◌∷◌, ◌++◌, length, refl, sym, ap, subst, arith, ⊎_elim, Option, Some, None, leb-false}
use Rattle.std.specs.Option.{option_and_then, option_map_or, option_to_list}
use Rattle.std.specs.List.{list_any}
use Rattle.std.proofs.lemmas.Bool.{or_cases, or_left, or_right}
use Rattle.model.specs.Names.{Name, name_eq}
use Rattle.model.specs.Tree.{FileTree}
use Rattle.model.specs.Classes.{Program, classes_of, class_of, super_name_of, interface_names, is_named}
use Rattle.model.specs.Hierarchy.{is_above, direct_supertypes}
use Rattle.hierarchy.specs.Ranks.{rank_of, is_late, is_reached, rises, NeverRise}
use Rattle.hierarchy.proofs.SetLaws.{same_name, named_so}
use Rattle.hierarchy.proofs.Indices.{not_found, none_both}
use Rattle.hierarchy.proofs.RowLaws.{name_eq_refl}

-- what passes one test passes another
any_weaken : (p q : Name → Bool) (xs : List Name) → ((x : Name) → p x ≡ true → q x ≡ true) → list_any p xs ≡ true → list_any q xs ≡ true
any_weaken p q [] f h = h
any_weaken p q (x ∷ xs) f h =
    ⊎_elim
    (λ here. or_left (q x) (list_any q xs) (f x here))
    (λ later. or_right (q x) (list_any q xs) (any_weaken p q xs f later))
    (or_cases (p x) (list_any p xs) h)

-- what stands directly above a class is above it
direct_above : (files : Program) (n : ℕ) (b c : Name) → list_any (λ s. name_eq s c) (direct_supertypes files b) ≡ true
    → is_above files (suc n) b c ≡ true
direct_above files n b c h = any_weaken (λ s. name_eq s c) (λ s. name_eq s c || is_above files n s c) (direct_supertypes files b) (λ s e. or_left (name_eq s c) (is_above files n s c) e) h

-- what stands directly above what is above a class is above it
above_more : (files : Program) (n : ℕ) (a b c : Name) → list_any (λ s. name_eq s c) (direct_supertypes files b) ≡ true
    → is_above files n a b ≡ true → is_above files (suc n) a c ≡ true
above_more files zero a b c h e = absurd cc
above_more files (suc n) a b c h e =
    any_weaken (λ s. name_eq s b || is_above files n s b) (λ s. name_eq s c || is_above files (suc n) s c) (direct_supertypes files a)
    (λ s found. ⊎_elim
    (λ same. or_right (name_eq s c) (is_above files (suc n) s c) (subst (λ x. is_above files (suc n) x c ≡ true) (sym (same_name s b same)) (direct_above files n b c h)))
    (λ more. or_right (name_eq s c) (is_above files (suc n) s c) (above_more files n s b c h more))
    (or_cases (name_eq s b) (is_above files n s b) found)) e

-- what is above a class by so many steps is above it by more
above_within : (files : Program) (n m : ℕ) (c d : Name) → n ≤ m → is_above files n c d ≡ true → is_above files m c d ≡ true
above_within files zero m c d le e = absurd cc
above_within files (suc n) zero c d le e = absurd (omega (arith, le))
above_within files (suc n) (suc m) c d le e =
    any_weaken (λ s. name_eq s d || is_above files n s d) (λ s. name_eq s d || is_above files m s d) (direct_supertypes files c)
    (λ s found. ⊎_elim
    (λ same. or_left (name_eq s d) (is_above files m s d) same)
    (λ more. or_right (name_eq s d) (is_above files m s d) (above_within files n m s d (omega (arith, le)) more))
    (or_cases (name_eq s d) (is_above files n s d) found)) e

-- the second class is the first, or is above it by at most so many steps
abbrev pub IsUp : Program → ℕ → Name → Name → Type 0
IsUp files n class upper = (name_eq class upper || is_above files n class upper) ≡ true

pub up_first : (files : Program) (class : Name) → IsUp files 0 class class
up_first files class = or_left (name_eq class class) false (name_eq_refl class)

step_above : (files : Program) (n : ℕ) (class lower upper : Name) → IsUp files n class lower
    → list_any (λ s. name_eq s upper) (direct_supertypes files lower) ≡ true → is_above files (suc n) class upper ≡ true
step_above files n class lower upper up direct =
    ⊎_elim
    (λ same. subst (λ x. is_above files (suc n) x upper ≡ true) (sym (same_name class lower same)) (direct_above files n lower upper direct))
    (λ more. above_more files n class lower upper direct more)
    (or_cases (name_eq class lower) (is_above files n class lower) up)

pub up_next : (files : Program) (n : ℕ) (class lower upper : Name) → IsUp files n class lower
    → list_any (λ s. name_eq s upper) (direct_supertypes files lower) ≡ true → IsUp files (n + 1) class upper
up_next files n class lower upper up direct =
    let more : suc n ≡ n + 1 = omega arith in
    or_right (name_eq class upper) (is_above files (n + 1) class upper) (subst (λ k. is_above files k class upper ≡ true) more (step_above files n class lower upper up direct))

pub leads_back_so : (files : Program) (n : ℕ) (class lower upper : Name) → n < length (classes_of files) → IsUp files n class lower
    → list_any (λ s. name_eq s upper) (direct_supertypes files lower) ≡ true → upper ≡ class
    → is_above files (length (classes_of files)) class class ≡ true
leads_back_so files n class lower upper lt up direct same =
    subst (λ x. is_above files (length (classes_of files)) class x ≡ true) same (above_within files (suc n) (length (classes_of files)) class upper (next n (length (classes_of files)) lt) (step_above files n class lower upper up direct))
  where
    next : (a b : ℕ) → a < b → suc a ≤ b
    next a b h = omega arith

-- ---- ranks that never rise on a way up

-- what is directly above a class has no greater rank
falls : (files : Program) (ranks : List ℕ) (class : Name) → NeverRise files ranks
    → is_reached files ranks (rank_of files ranks class + 1) class ≡ false
falls files ranks class h = by (class_of files class) refl
  where
    by : (o : Option FileTree) → class_of files class ≡ o → is_reached files ranks (rank_of files ranks class + 1) class ≡ false
    by None e = ap (λ (o : Option FileTree). list_any (is_late files ranks (rank_of files ranks class + 1)) (option_to_list (option_and_then super_name_of o) ++ option_map_or interface_names o [])) e
    by (Some file) e =
        subst (λ (name : Name). is_reached files ranks (rank_of files ranks name + 1) name ≡ false) (named_so files class file e)
        (not_found (is_named class) (rises files ranks) (classes_of files) file e h)

-- what is above a class has no greater rank
no_greater : (files : Program) (ranks : List ℕ) → NeverRise files ranks → (n : ℕ) (c d : Name) → is_above files n c d ≡ true
    → rank_of files ranks d ≤ rank_of files ranks c
no_greater files ranks h zero c d e = absurd cc
no_greater files ranks h (suc n) c d e =
    none_both (λ s. name_eq s d || is_above files n s d) (is_late files ranks (rank_of files ranks c + 1)) (direct_supertypes files c) (falls files ranks c h)
    (λ s late found. step s (leb-false (rank_of files ranks c + 1) (rank_of files ranks s) late) found (no_greater files ranks h n s d)) e
  where
    step : (s : Name) → rank_of files ranks s < rank_of files ranks c + 1 → (name_eq s d || is_above files n s d) ≡ true
        → (is_above files n s d ≡ true → rank_of files ranks d ≤ rank_of files ranks s) → rank_of files ranks d ≤ rank_of files ranks c
    step s low found above =
        ⊎_elim
        (λ same. let less : rank_of files ranks s ≤ rank_of files ranks c = omega (arith, low) in subst (λ x. rank_of files ranks x ≤ rank_of files ranks c) (same_name s d same) less)
        (λ more. let less : rank_of files ranks d ≤ rank_of files ranks s = above more in omega (arith, less, low))
        (or_cases (name_eq s d) (is_above files n s d) found)

-- a class whose rank is greater than those directly above it isn't above itself
pub unreached : (files : Program) (ranks : List ℕ) → NeverRise files ranks → (n : ℕ) (class : Name)
    → is_reached files ranks (rank_of files ranks class) class ≡ false → is_above files n class class ≡ false
unreached files ranks h zero class low = refl
unreached files ranks h (suc n) class low = by (is_above files (suc n) class class) refl
  where
    step : (s : Name) → rank_of files ranks s < rank_of files ranks class → (name_eq s class || is_above files n s class) ≡ true → ⊥
    step s less found =
        ⊎_elim
        (λ same. let here : rank_of files ranks class < rank_of files ranks class = subst (λ x. rank_of files ranks x < rank_of files ranks class) (same_name s class same) less in omega (arith, here))
        (λ more. let back : rank_of files ranks class ≤ rank_of files ranks s = no_greater files ranks h n s class more in omega (arith, back, less))
        (or_cases (name_eq s class) (is_above files n s class) found)

    by : (b : Bool) → is_above files (suc n) class class ≡ b → is_above files (suc n) class class ≡ false
    by false e = e
    by true e =
        absurd (none_both (λ s. name_eq s class || is_above files n s class) (is_late files ranks (rank_of files ranks class)) (direct_supertypes files class) low
        (λ s late found. step s (leb-false (rank_of files ranks class) (rank_of files ranks s) late) found) e)
