-- Going up along superclasses: how far they go, and the first that two classes have in common.
use Rattle.std.proofs.Common.{◌≡◌, ℕ, zero, suc, ◌+◌, ◌<◌, ◌≤◌, length, Option, Some, None, Bool, true, false, cond, ◌||◌, refl, sym, ap, ◌∙◌, subst, arith}
use Rattle.std.specs.Option.{option_and_then, option_map_or}
use mathlib.Core.Bool.{or-false}
use Rattle.std.proofs.lemmas.Bool.{or_from, both_ways}
use Rattle.model.specs.Names.{Name, name_eq}
use Rattle.model.specs.Classes.{Program, classes_of, superclass_of, is_within, is_subclass}
use Rattle.model.specs.TypeJoin.{common_within, class_join}
use Rattle.hierarchy.specs.Lineages.{class_above}
use Rattle.hierarchy.proofs.Names.{name_eq_sym}
use Rattle.hierarchy.proofs.SetLaws.{same_name}
use Rattle.hierarchy.proofs.RowLaws.{name_eq_refl}

module _ {A : Type 0} where
  none_or_some : (o : Option A) (x : A) → o ≡ None → o ≡ Some x → ⊥
  none_or_some o x e f = cc

  one_value : (o : Option A) (x y : A) → o ≡ Some x → o ≡ Some y → x ≡ y
  one_value o x y e f = cc

-- ---- depths

module _ (files : Program) where
  -- a class has just so many superclasses
  abbrev pub HasDepth : ℕ → Name → Type 0
  HasDepth zero c = superclass_of files c ≡ None
  HasDepth (suc k) c = (s : Name) × ((superclass_of files c ≡ Some s) × HasDepth k s)

  pub one_depth : (k j : ℕ) (c : Name) → HasDepth k c → HasDepth j c → k ≡ j
  one_depth zero zero c h g = refl
  one_depth zero (suc j) c h g = absurd (none_or_some (superclass_of files c) g.0 h g.1.0)
  one_depth (suc k) zero c h g = absurd (none_or_some (superclass_of files c) h.0 g h.1.0)
  one_depth (suc k) (suc j) c h g =
      let same = one_value (superclass_of files c) h.0 g.0 h.1.0 g.1.0 in
      ap suc (one_depth k j g.0 (subst (HasDepth k) same h.1.1) g.1.1)

  -- classes of two depths have two names
  unlike : (k j : ℕ) (c d : Name) → HasDepth k c → HasDepth j d → (k ≡ j → ⊥) → name_eq c d ≡ false
  unlike k j c d h g ne = by (name_eq c d) refl
    where
      by : (b : Bool) → name_eq c d ≡ b → b ≡ false
      by true e = absurd (ne (one_depth k j d (subst (HasDepth k) (same_name c d e) h) g))
      by false e = refl

  -- ---- which classes are below which

  within_next : (m : ℕ) (c s d : Name) → superclass_of files c ≡ Some s
      → is_within files (suc m) c d ≡ (name_eq c d || is_within files m s d)
  within_next m c s d e = ap (λ o. name_eq c d || option_map_or (λ s. is_within files m s d) o false) e

  within_last : (m : ℕ) (c d : Name) → superclass_of files c ≡ None → is_within files (suc m) c d ≡ name_eq c d
  within_last m c d e = ap (λ o. name_eq c d || option_map_or (λ s. is_within files m s d) o false) e ∙ or-false (name_eq c d)

  -- more steps than there are superclasses lead no further
  within_enough : (k m : ℕ) (c d : Name) → HasDepth k c → k ≤ m → is_within files m c d ≡ is_within files k c d
  within_enough zero zero c d h l = refl
  within_enough zero (suc m) c d h l = within_last m c d h
  within_enough (suc k) zero c d h l = absurd (omega (arith, l))
  within_enough (suc k) (suc m) c d h l =
      within_next m c h.0 d h.1.0 ∙ ap (λ b. name_eq c d || b) (within_enough k m h.0 d h.1.1 (omega (arith, l))) ∙ sym (within_next k c h.0 d h.1.0)

  -- a class is not below one that has more superclasses
  not_within : (m k j : ℕ) (c d : Name) → HasDepth k c → HasDepth j d → k < j → is_within files m c d ≡ false
  not_within zero k j c d h g l = unlike k j c d h g (λ e. omega (arith, l, e))
  not_within (suc m) zero j c d h g l = within_last m c d h ∙ unlike zero j c d h g (λ e. omega (arith, l, e))
  not_within (suc m) (suc k) j c d h g l =
      within_next m c h.0 d h.1.0
      ∙ or_from (name_eq c d) (is_within files m h.0 d) (unlike (suc k) j c d h g (λ e. omega (arith, l, e))) (not_within m k j h.0 d h.1.1 g (omega (arith, l)))

  -- of classes at one depth one is below the other only where they are one
  within_level : (m k : ℕ) (c d : Name) → HasDepth k c → HasDepth k d → is_within files m c d ≡ name_eq c d
  within_level zero k c d h g = refl
  within_level (suc m) zero c d h g = within_last m c d h
  within_level (suc m) (suc k) c d h g =
      within_next m c h.0 d h.1.0 ∙ ap (λ b. name_eq c d || b) (not_within m k (suc k) h.0 d h.1.1 g (omega arith)) ∙ or-false (name_eq c d)

  -- what is above a class, and not so deep, is above its superclass
  subclass_deeper : (k j : ℕ) (c s d : Name) → superclass_of files c ≡ Some s → HasDepth k s → HasDepth j d → j ≤ k
      → k < length (classes_of files) → is_subclass files c d ≡ is_subclass files s d
  subclass_deeper k j c s d e h g l m =
      let all = length (classes_of files) in
      within_enough (suc k) all c d (s, (e, h)) (omega (arith, m)) ∙ within_next k c s d e
      ∙ ap (λ b. b || is_within files k s d) (unlike (suc k) j c d (s, (e, h)) g (λ q. omega (arith, l, q)))
      ∙ sym (within_enough k all s d h (omega (arith, m)))

  -- ---- the first common class

  common_next : (m : ℕ) (c s d : Name) → superclass_of files c ≡ Some s
      → common_within files (suc m) c d ≡ cond (is_subclass files d c) (Some c) (common_within files m s d)
  common_next m c s d e = ap (λ o. cond (is_subclass files d c) (Some c) (option_and_then (λ s. common_within files m s d) o)) e

  common_last : (m : ℕ) (c d : Name) → superclass_of files c ≡ None
      → common_within files (suc m) c d ≡ cond (is_subclass files d c) (Some c) None
  common_last m c d e = ap (λ o. cond (is_subclass files d c) (Some c) (option_and_then (λ s. common_within files m s d) o)) e

  common_enough : (k m n : ℕ) (c d : Name) → HasDepth k c → k < m → k < n → common_within files m c d ≡ common_within files n c d
  common_enough k zero n c d h l r = absurd (omega (arith, l))
  common_enough k (suc m) zero c d h l r = absurd (omega (arith, r))
  common_enough zero (suc m) (suc n) c d h l r = common_last m c d h ∙ sym (common_last n c d h)
  common_enough (suc k) (suc m) (suc n) c d h l r =
      common_next m c h.0 d h.1.0
      ∙ ap (λ o. cond (is_subclass files d c) (Some c) o) (common_enough k m n h.0 d h.1.1 (omega (arith, l)) (omega (arith, r)))
      ∙ sym (common_next n c h.0 d h.1.0)

  -- it is the same from the superclass of the second class, where that is the deeper one
  common_deeper : (m k j : ℕ) (c d t : Name) → superclass_of files d ≡ Some t → HasDepth k t → HasDepth j c → j ≤ k
      → k < length (classes_of files) → common_within files m c d ≡ common_within files m c t
  common_deeper zero k j c d t e h g l r = refl
  common_deeper (suc m) k zero c d t e h g l r =
      common_last m c d g ∙ ap (λ b. cond b (Some c) None) (subclass_deeper k zero d t c e h g l r) ∙ sym (common_last m c t g)
  common_deeper (suc m) k (suc j) c d t e h g l r =
      common_next m c g.0 d g.1.0
      ∙ ap (λ b. cond b (Some c) (common_within files m g.0 d)) (subclass_deeper k (suc j) d t c e h g l r)
      ∙ ap (λ o. cond (is_subclass files t c) (Some c) o) (common_deeper m k j g.0 d t e h g.1.1 (omega (arith, l)) r)
      ∙ sym (common_next m c g.0 t g.1.0)

  -- and from the superclass of the first class, where that is the deeper one
  common_above_first : (m k j : ℕ) (c s d : Name) → superclass_of files c ≡ Some s → HasDepth k s → HasDepth j d → j ≤ k
      → common_within files (suc m) c d ≡ common_within files m s d
  common_above_first m k j c s d e h g l =
      common_next m c s d e ∙ ap (λ b. cond b (Some c) (common_within files m s d)) (not_within (length (classes_of files)) j (suc k) d c g (s, (e, h)) (omega (arith, l)))

  -- ---- classes by so many steps

  pub above_next : (i : ℕ) (c s : Name) → superclass_of files c ≡ Some s → class_above files (suc i) c ≡ class_above files i s
  above_next i c s e = ap (λ o. option_and_then (λ s. class_above files i s) o) e

  itself : (c a : Name) → class_above files zero c ≡ Some a → c ≡ a
  itself c a e = cc

  pub above_more : (i j m : ℕ) (c a : Name) → i + j ≡ m → class_above files i c ≡ Some a → class_above files m c ≡ class_above files j a
  above_more zero j m c a e h =
      let n : m ≡ j = omega (arith, e) in
      ap (λ k. class_above files k c) n ∙ ap (class_above files j) (itself c a h)
  above_more (suc i) j zero c a e h = absurd (omega (arith, e))
  above_more (suc i) j (suc m) c a e h = by (superclass_of files c) refl h (λ s. above_more i j m s a (omega (arith, e)))
    where
      by : (o : Option Name) → superclass_of files c ≡ o → option_and_then (λ s. class_above files i s) o ≡ Some a
          → ((s : Name) → class_above files i s ≡ Some a → class_above files m s ≡ class_above files j a)
          → class_above files (suc m) c ≡ class_above files j a
      by None q h more = absurd cc
      by (Some s) q h more = above_next m c s q ∙ more s h

  pub depth_above : (i j m : ℕ) (c a : Name) → i + j ≡ m → HasDepth m c → class_above files i c ≡ Some a → HasDepth j a
  depth_above zero j m c a e h g =
      let n : m ≡ j = omega (arith, e) in
      subst (HasDepth j) (itself c a g) (subst (λ k. HasDepth k c) n h)
  depth_above (suc i) j zero c a e h g = absurd (omega (arith, e))
  depth_above (suc i) j (suc m) c a e h g = depth_above i j m h.0 a (omega (arith, e)) h.1.1 (sym (above_next i c h.0 h.1.0) ∙ g)

  -- ---- subclasses

  -- a class is below one of no more superclasses where that stands above it by so many steps
  pub subclass_raised : (i j k : ℕ) (c d a : Name) → HasDepth k c → HasDepth j d → j + i ≡ k → k < length (classes_of files)
      → class_above files i c ≡ Some a → is_subclass files c d ≡ name_eq a d
  subclass_raised zero j k c d a h g e l q =
      let same : k ≡ j = omega (arith, e) in
      within_level (length (classes_of files)) j c d (subst (λ n. HasDepth n c) same h) g ∙ ap (λ n. name_eq n d) (itself c a q)
  subclass_raised (suc i) j zero c d a h g e l q = absurd (omega (arith, e))
  subclass_raised (suc i) j (suc k) c d a h g e l q =
      subclass_deeper k j c h.0 d h.1.0 h.1.1 g (omega (arith, e)) (omega (arith, l))
      ∙ subclass_raised i j k h.0 d a h.1.1 g (omega (arith, e)) (omega (arith, l)) (sym (above_next i c h.0 h.1.0) ∙ q)

  pub no_subclass : (k j : ℕ) (c d : Name) → HasDepth k c → HasDepth j d → k < j → is_subclass files c d ≡ false
  no_subclass k j c d h g l = not_within (length (classes_of files)) k j c d h g l

  -- ---- the first common superclass, from classes above

  pub join_second : (i k j : ℕ) (c d t : Name) → HasDepth k c → HasDepth j d → k + i ≡ j → j < length (classes_of files)
      → class_above files i d ≡ Some t → class_join files c d ≡ class_join files c t
  join_second zero k j c d t h g e l q = ap (class_join files c) (itself d t q)
  join_second (suc i) k zero c d t h g e l q = absurd (omega (arith, e))
  join_second (suc i) k (suc j) c d t h g e l q =
      common_deeper (suc (length (classes_of files))) j k c d g.0 g.1.0 g.1.1 h (omega (arith, e)) (omega (arith, l))
      ∙ join_second i k j c g.0 t h g.1.1 (omega (arith, e)) (omega (arith, l)) (sym (above_next i d g.0 g.1.0) ∙ q)

  pub join_first : (i k j : ℕ) (c d s : Name) → HasDepth k c → HasDepth j d → j + i ≡ k → k < length (classes_of files)
      → class_above files i c ≡ Some s → class_join files c d ≡ class_join files s d
  join_first zero k j c d s h g e l q = ap (λ n. class_join files n d) (itself c s q)
  join_first (suc i) zero j c d s h g e l q = absurd (omega (arith, e))
  join_first (suc i) (suc k) j c d s h g e l q =
      let all = length (classes_of files) in
      common_above_first all k j c h.0 d h.1.0 h.1.1 g (omega (arith, e))
      ∙ common_enough k all (suc all) h.0 d h.1.1 (omega (arith, l)) (omega (arith, l))
      ∙ join_first i k j h.0 d s h.1.1 g (omega (arith, e)) (omega (arith, l)) (sym (above_next i c h.0 h.1.0) ∙ q)

  -- classes at one depth have that of their superclasses
  pub join_next : (k : ℕ) (c d s t : Name) → HasDepth (suc k) c → HasDepth (suc k) d → superclass_of files c ≡ Some s
      → superclass_of files d ≡ Some t → suc k < length (classes_of files) → name_eq c d ≡ false
      → class_join files c d ≡ class_join files s t
  join_next k c d s t h g p q l ne =
      let all = length (classes_of files) in
      let above_c : HasDepth k s = subst (HasDepth k) (one_value (superclass_of files c) h.0 s h.1.0 p) h.1.1 in
      let above_d : HasDepth k t = subst (HasDepth k) (one_value (superclass_of files d) g.0 t g.1.0 q) g.1.1 in
      let unlike : is_subclass files d c ≡ false = within_level all (suc k) d c g h ∙ name_eq_sym d c ∙ ne in
      common_next all c s d p
      ∙ ap (λ b. cond b (Some c) (common_within files all s d)) unlike
      ∙ common_deeper all k k s d t q above_d above_c (omega arith) (omega (arith, l))
      ∙ common_enough k all (suc all) s t above_c (omega (arith, l)) (omega (arith, l))

  -- and that of any two above them that are not yet one
  pub join_skip : (i m : ℕ) (c d a b : Name) → HasDepth m c → HasDepth m d → i ≤ m → m < length (classes_of files)
      → class_above files i c ≡ Some a → class_above files i d ≡ Some b → name_eq a b ≡ false → class_join files c d ≡ class_join files a b
  join_skip zero m c d a b h g e l p q ne = ap (λ n. class_join files n d) (itself c a p) ∙ ap (class_join files a) (itself d b q)
  join_skip (suc i) zero c d a b h g e l p q ne = absurd (omega (arith, e))
  join_skip (suc i) (suc m) c d a b h g e l p q ne =
      join_next m c d h.0 g.0 h g h.1.0 g.1.0 l (differ (name_eq c d) refl)
      ∙ join_skip i m h.0 g.0 a b h.1.1 g.1.1 (omega (arith, e)) (omega (arith, l)) (sym (above_next i c h.0 h.1.0) ∙ p) (sym (above_next i d g.0 g.1.0) ∙ q) ne
    where
      same : c ≡ d → name_eq a b ≡ true
      same s = subst (λ n. name_eq a n ≡ true) (one_value (class_above files (suc i) d) a b (ap (class_above files (suc i)) (sym s) ∙ p) q) (name_eq_refl a)

      differ : (b : Bool) → name_eq c d ≡ b → name_eq c d ≡ false
      differ false z = z
      differ true z = absurd (both_ways _ ne (same (same_name c d z)))

  within_itself : (n : ℕ) (c : Name) → is_within files n c c ≡ true
  within_itself zero c = name_eq_refl c
  within_itself (suc n) c = ap (λ b. b || option_map_or (λ s. is_within files n s c) (superclass_of files c) false) (name_eq_refl c)

  pub join_same : (c : Name) → class_join files c c ≡ Some c
  join_same c =
      let all = length (classes_of files) in
      ap (λ b. cond b (Some c) (option_and_then (λ s. common_within files all s c) (superclass_of files c))) (within_itself all c)

  -- a name of no class is below itself alone
  pub no_superclass : (c d : Name) → superclass_of files c ≡ None → is_subclass files c d ≡ name_eq c d
  no_superclass c d e = within_enough zero (length (classes_of files)) c d e (omega arith)
