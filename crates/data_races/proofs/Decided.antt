-- The test for races finds the races of a run, and no others.
use Rattle.std.proofs.Common.{◌≡◌, refl, sym, ◌∙◌, ap, subst, ℕ, zero, suc, ◌+◌, ◌-◌, ◌<◌, ◌≤◌, ◌⊎◌, inl, inr, List, [], ◌∷◌, ◌++◌, length, map, arith}
use Rattle.std.specs.Prelude.{Some, None, slice_get, Bool, true, false, not, ◌&&◌, ◌||◌, ◌↔◌, IsTrue, IsFalse}
use Rattle.std.specs.List.{list_any}
use Rattle.std.proofs.lemmas.Option.{slice_get_within}
use Rattle.std.proofs.lemmas.Bool.Decides.{eqb_tells}
use Rattle.run_laws.specs.interleavings.Ends.{Has}
use Rattle.data_races.specs.HappensBefore.{Relations, Pair, HappensBefore, InProgramOrder, Synchronized, Through, IsRace}
use Rattle.data_races.specs.RaceTest.{Marked, marked, stays, precedes, follows, pair_if, races_with, races_if, races_from, races_of}
use Rattle.data_races.proofs.Order.{onwards, at_once, Precedes}

-- ---- tests

both : (a b : Bool) → IsTrue (a && b) → IsTrue a × IsTrue b
both true true h = (refl, refl)
both true false h = absurd (cc)
both false b h = absurd (cc)

and_true : (a b : Bool) → IsTrue a → IsTrue b → IsTrue (a && b)
and_true true true g h = refl
and_true true false g h = absurd (cc)
and_true false b g h = absurd (cc)

one_of : (a b : Bool) → IsTrue (a || b) → IsTrue a ⊎ IsTrue b
one_of true b h = inl refl
one_of false b h = inr h

or_left : (a b : Bool) → IsTrue a → IsTrue (a || b)
or_left true b h = refl
or_left false b h = absurd (cc)

or_right : (a b : Bool) → IsTrue b → IsTrue (a || b)
or_right true b h = refl
or_right false b h = h

not_true : (b : Bool) → IsTrue (not b) → b ≡ false
not_true true h = absurd (cc)
not_true false h = refl

not_false : (b : Bool) → b ≡ false → IsTrue (not b)
not_false true h = absurd (cc)
not_false false h = refl

is_or_not : (b : Bool) → IsTrue b ⊎ (b ≡ false)
is_or_not true = inl refl
is_or_not false = inr refl

none_any : {A : Type 0} (test : A → Bool) (xs : List A) → ((m : ℕ) (x : A) → slice_get xs m ≡ Some x → test x ≡ false) → list_any test xs ≡ false
none_any test [] none = refl
none_any test (x ∷ xs) none = subst (λ b. (b || list_any test xs) ≡ false) (sym (none 0 x refl)) (none_any test xs (λ m y at. none (suc m) y at))

any_none : {A : Type 0} (test : A → Bool) (xs : List A) → list_any test xs ≡ false → (m : ℕ) (x : A) → slice_get xs m ≡ Some x → test x ≡ false
any_none test [] none m x at = absurd (cc)
any_none test (y ∷ ys) none zero x at =
    let e : y ≡ x = cc in
    elim (is_or_not (test y)) [
      | inl t ↦ absurd (let g : true ≡ false = sym (or_left (test y) (list_any test ys) t) ∙ none in cc)
      | inr f ↦ subst (λ z. test z ≡ false) e f
    ]
any_none test (y ∷ ys) none (suc m) x at =
    elim (is_or_not (list_any test ys)) [
      | inl t ↦ absurd (let g : true ≡ false = sym (or_right (test y) (list_any test ys) t) ∙ none in cc)
      | inr f ↦ any_none test ys f m x at
    ]

at_some : {A : Type 0} (xs : List A) (m : ℕ) → m < length xs → (x : A) × (slice_get xs m ≡ Some x)
at_some [] m l = absurd (omega arith)
at_some (x ∷ xs) zero l = (x, refl)
at_some (x ∷ xs) (suc m) l = at_some xs m (omega arith)

-- ---- what stands in a list

abbrev pub In : {X : Type 0} → X → List X → Type 0
In x [] = ⊥
In x (y ∷ ys) = (x ≡ y) ⊎ In x ys

in_left : {X : Type 0} (x : X) (xs ys : List X) → In x xs → In x (xs ++ ys)
in_left x [] ys h = absurd h
in_left x (y ∷ xs) ys h = elim h [ inl e ↦ inl e | inr t ↦ inr (in_left x xs ys t) ]

in_right : {X : Type 0} (x : X) (xs ys : List X) → In x ys → In x (xs ++ ys)
in_right x [] ys h = h
in_right x (y ∷ xs) ys h = inr (in_right x xs ys h)

in_cases : {X : Type 0} (x : X) (xs ys : List X) → In x (xs ++ ys) → In x xs ⊎ In x ys
in_cases x [] ys h = inr h
in_cases x (y ∷ xs) ys h = elim h [ inl e ↦ inl (inl e) | inr t ↦ elim (in_cases x xs ys t) [ inl g ↦ inl (inr g) | inr g ↦ inr g ] ]

pub in_map : {X Y : Type 0} (f : X → Y) (x : X) (xs : List X) → In x xs → In (f x) (map f xs)
in_map f x [] h = absurd h
in_map f x (y ∷ xs) h = elim h [ inl e ↦ inl (ap f e) | inr t ↦ inr (in_map f x xs t) ]

pub from_map : {X Y : Type 0} (f : X → Y) (y : Y) (xs : List X) → In y (map f xs) → (x : X) × In x xs × (f x ≡ y)
from_map f y [] h = absurd h
from_map f y (x ∷ xs) h = elim h [ inl e ↦ (x, inl refl, sym e) | inr t ↦ let g = from_map f y xs t in (g.0, inr g.1, g.2) ]

pub has_from_in : {A : Type 0} (x : A) (xs : List A) → In x xs → Has xs x
has_from_in x [] h = absurd h
has_from_in x (y ∷ ys) h = elim h [ inl e ↦ (0, let g : Some y ≡ Some x = λ i. Some (sym e i) in g) | inr t ↦ let p = has_from_in x ys t in (suc p.0, p.1) ]

pub in_from_at : {A : Type 0} (x : A) (xs : List A) (k : ℕ) → slice_get xs k ≡ Some x → In x xs
in_from_at x [] k h = absurd (cc)
in_from_at x (y ∷ ys) zero h = let e : x ≡ y = cc in inl e
in_from_at x (y ∷ ys) (suc k) h = inr (in_from_at x ys k h)

pair_true : (t : Bool) (i j : ℕ) (x : ℕ × ℕ) → In x (pair_if t i j) → IsTrue t × (x ≡ (i, j))
pair_true true i j x h = elim h [ inl e ↦ (refl, e) | inr t ↦ absurd t ]
pair_true false i j x h = absurd h

pair_in : (t : Bool) (i j : ℕ) → IsTrue t → In (i, j) (pair_if t i j)
pair_in true i j h = inl refl
pair_in false i j h = absurd (cc)

module _ {A : Type 0} (R : Relations A) (run : List A) where
  -- it is the same action, or happens before
  abbrev pub UpTo : ℕ → ℕ → Type 0
  UpTo i k = (i ≡ k) ⊎ HappensBefore R run i k

  -- what happens before an action does so by way of one that comes before it at once
  last_edge : (i j : ℕ) → HappensBefore R run i j → (k : ℕ) × UpTo i k × Precedes R run k j
  last_edge i j (InProgramOrder _ _ h) = (i, inl refl, inl h)
  last_edge i j (Synchronized _ _ h) = (i, inl refl, inr h)
  last_edge i j (Through _ k _ h g) =
      let p = last_edge k j g in (
        p.0,
        elim p.1 [ inl same ↦ inr (subst (λ m. HappensBefore R run i m) same h) | inr on ↦ inr (Through i k p.0 h on) ],
        p.2,
      )

  edge_onwards : (k j : ℕ) → Precedes R run k j → k < j
  edge_onwards k j p = onwards R run k j (at_once R run k j p)

  -- these are the actions from k on and before j
  pub record Covers (between : List A) (k j : ℕ) : Type 0 where
    pub ends : k + length between ≡ j
    pub at : (m : ℕ) (x : A) → slice_get between m ≡ Some x → slice_get run (k + m) ≡ Some x

  covers_none : (j : ℕ) → Covers [] j j
  covers_none j = record { ends = omega arith; at = λ m x h. absurd (let g : None ≡ Some x = h in cc) }

  covers_more : (between : List A) (a : A) (k j : ℕ) → slice_get run k ≡ Some a → Covers between (suc k) j → Covers (a ∷ between) k j
  covers_more between a k j at c =
      record {
        ends = let e = c.ends in omega arith;
        at = λ m x h. more m x h;
      }
    where
      more : (m : ℕ) (x : A) → slice_get (a ∷ between) m ≡ Some x → slice_get run (k + m) ≡ Some x
      more zero x h = let e : k + zero ≡ k = omega arith in subst (λ p. slice_get run p ≡ Some x) (sym e) (at ∙ h)
      more (suc m) x h = let e : k + suc m ≡ suc k + m = omega arith in subst (λ p. slice_get run p ≡ Some x) (sym e) (c.at m x h)

  -- an action at a place that is covered
  covered : (between : List A) (k j q : ℕ) (x : A) → Covers between k j → k ≤ q → q < j → slice_get run q ≡ Some x → (m : ℕ) × (slice_get between m ≡ Some x)
  covered between k j q x c low high at =
      let m = q - k in
      let p = at_some between m (let e = c.ends in omega arith) in
      let e : k + m ≡ q = omega arith in
      let f : Some p.0 ≡ Some x = sym (subst (λ r. slice_get run r ≡ Some p.0) e (c.at m p.0 p.1)) ∙ at in
      (m, p.1 ∙ f)

  stays_true : (a : A) (between : List A) (s : Bool) → IsTrue (stays R a between s) → IsTrue s × (list_any (R.takes_away a) between ≡ false)
  stays_true a between true h = (refl, not_true (list_any (R.takes_away a) between) h)
  stays_true a between false h = absurd (cc)

  stays_from : (a : A) (between : List A) (s : Bool) → IsTrue s → list_any (R.takes_away a) between ≡ false → IsTrue (stays R a between s)
  stays_from a between true h none = not_false (list_any (R.takes_away a) between) none
  stays_from a between false h none = absurd (cc)

  precedes_true : (a b : A) (between : List A) (k j : ℕ) → slice_get run k ≡ Some a → slice_get run j ≡ Some b → Covers between (suc k) j
      → IsTrue (precedes R a between b) → Precedes R run k j
  precedes_true a b between k j at_a at_b c h =
      let pair : Pair run k j = record { first = a; second = b; earlier = let e = c.ends in omega arith; at_first = at_a; at_second = at_b } in
      elim (one_of (R.is_of_one_thread a b) (stays R a between (R.synchronizes a b)) h) [
        | inl t ↦ inl (record { pair = pair; same = t })
        | inr t ↦
            let s = stays_true a between (R.synchronizes a b) t in
            inr (record {
              pair = pair;
              synchronizes = s.0;
              stays = λ q x low high at.
                  let m = covered between (suc k) j q x c (omega arith) high at in any_none (R.takes_away a) between s.1 m.0 x m.1;
            })
      ]

  same_at : (k : ℕ) (a b : A) → slice_get run k ≡ Some a → slice_get run k ≡ Some b → a ≡ b
  same_at k a b g h = let e : Some a ≡ Some b = sym g ∙ h in cc

  precedes_from : (a b : A) (between : List A) (k j : ℕ) → slice_get run k ≡ Some a → slice_get run j ≡ Some b → Covers between (suc k) j
      → Precedes R run k j → IsTrue (precedes R a between b)
  precedes_from a b between k j at_a at_b c p =
      elim p [
        | inl h ↦
            or_left (R.is_of_one_thread a b) (stays R a between (R.synchronizes a b))
            (subst (λ y. IsTrue (R.is_of_one_thread a y)) (same_at j h.pair.second b h.pair.at_second at_b)
            (subst (λ x. IsTrue (R.is_of_one_thread x h.pair.second)) (same_at k h.pair.first a h.pair.at_first at_a) h.same))
        | inr h ↦
            or_right (R.is_of_one_thread a b) (stays R a between (R.synchronizes a b))
            (stays_from a between (R.synchronizes a b)
            (subst (λ y. IsTrue (R.synchronizes a y)) (same_at j h.pair.second b h.pair.at_second at_b)
            (subst (λ x. IsTrue (R.synchronizes x h.pair.second)) (same_at k h.pair.first a h.pair.at_first at_a) h.synchronizes))
            (none_any (R.takes_away a) between (λ m x at.
            let l = slice_get_within between m x at in
            let e = c.ends in
            subst (λ y. IsFalse (R.takes_away y x)) (same_at k h.pair.first a h.pair.at_first at_a)
            (h.stays (suc k + m) x (omega arith) (omega arith) (c.at m x at)))))
      ]

  -- ---- the walk from one action on

  -- these are the actions from i on and before j, the latest first, each with its mark
  abbrev pub IsWalked : ℕ → List (Marked A) → ℕ → Type 0
  IsWalked i [] j = j ≡ i
  IsWalked i (m ∷ earlier) j = (k : ℕ) × (j ≡ suc k) × (slice_get run k ≡ Some m.action) × (IsTrue m.is_behind ↔ UpTo i k) × IsWalked i earlier k

  follows_true : (i j : ℕ) (b : A) → slice_get run j ≡ Some b → (earlier : List (Marked A)) (k : ℕ) (between : List A) → IsWalked i earlier k
      → Covers between k j → IsTrue (follows R between b earlier) → HappensBefore R run i j
  follows_true i j b at [] k between w c h = absurd (cc)
  follows_true i j b at (m ∷ earlier) k between w c h =
      let c' : Covers between (suc w.0) j = subst (λ n. Covers between n j) w.1 c in
      elim (one_of (m.is_behind && precedes R m.action between b) (follows R (m.action ∷ between) b earlier) h) [
        | inl t ↦
            let p = both m.is_behind (precedes R m.action between b) t in
            let edge = at_once R run w.0 j (precedes_true m.action b between w.0 j w.2 at c' p.1) in
            elim (w.3.0 p.0) [
              | inl e ↦ subst (λ n. HappensBefore R run n j) (sym e) edge
              | inr g ↦ Through i w.0 j g edge
            ]
        | inr t ↦ follows_true i j b at earlier w.0 (m.action ∷ between) w.4 (covers_more between m.action w.0 j w.2 c') t
      ]

  follows_from : (i j : ℕ) (b : A) → slice_get run j ≡ Some b → (p : ℕ) → i ≤ p → UpTo i p → Precedes R run p j
      → (earlier : List (Marked A)) (k : ℕ) (between : List A) → IsWalked i earlier k → p < k → Covers between k j → IsTrue (follows R between b earlier)
  follows_from i j b at p low up edge [] k between w l c = absurd (let e : k ≡ i = w in omega arith)
  follows_from i j b at p low up edge (m ∷ earlier) k between w l c =
      let c' : Covers between (suc w.0) j = subst (λ n. Covers between n j) w.1 c in
      let k_is : k ≡ suc w.0 = w.1 in
      elim (eqb_tells p w.0) [
        | inl q ↦
            or_left (m.is_behind && precedes R m.action between b) (follows R (m.action ∷ between) b earlier)
            (and_true m.is_behind (precedes R m.action between b) (w.3.1 (subst (λ n. UpTo i n) q.1 up))
            (precedes_from m.action b between w.0 j w.2 at c' (subst (λ n. Precedes R run n j) q.1 edge)))
        | inr q ↦
            or_right (m.is_behind && precedes R m.action between b) (follows R (m.action ∷ between) b earlier)
            (follows_from i j b at p low up edge earlier w.0 (m.action ∷ between) w.4 (let ne = q.1 in omega arith) (covers_more between m.action w.0 j w.2 c'))
      ]

  up_to_onwards : (i k : ℕ) → UpTo i k → i ≤ k
  up_to_onwards i k u = elim u [ inl e ↦ omega arith | inr h ↦ let l = onwards R run i k h in omega arith ]

  -- the mark of the next action
  follows_is : (i j : ℕ) (b : A) (earlier : List (Marked A)) → slice_get run j ≡ Some b → IsWalked i earlier j
      → IsTrue (follows R [] b earlier) ↔ HappensBefore R run i j
  follows_is i j b earlier at w = (
    λ h. follows_true i j b at earlier j [] w (covers_none j) h,
    λ h. let e = last_edge i j h in
        follows_from i j b at e.0 (up_to_onwards i e.0 e.1) e.1 e.2 earlier j [] w (edge_onwards e.0 j e.2) (covers_none j),
  )

  -- ---- all races

  -- the rest of the run from j on
  abbrev pub IsRest : ℕ → List A → Type 0
  IsRest j rest = (m : ℕ) → slice_get run (j + m) ≡ slice_get rest m

  rest_next : (j : ℕ) (b : A) (rest : List A) → IsRest j (b ∷ rest) → IsRest (suc j) rest
  rest_next j b rest r m = let e : suc j + m ≡ j + suc m = omega arith in ap (λ n. slice_get run n) e ∙ r (suc m)

  rest_first : (j : ℕ) (b : A) (rest : List A) → IsRest j (b ∷ rest) → slice_get run j ≡ Some b
  rest_first j b rest r = let e : j ≡ j + zero = omega arith in ap (λ n. slice_get run n) e ∙ r zero

  walked_next : (i j : ℕ) (b : A) (earlier : List (Marked A)) → i < j → slice_get run j ≡ Some b → IsWalked i earlier j
      → IsWalked i (marked b (follows R [] b earlier) ∷ earlier) (suc j)
  walked_next i j b earlier l at w =
      let f = follows_is i j b earlier at w in
      (j, refl, at, (λ h. inr (f.0 h), λ u. elim u [ inl e ↦ absurd (omega arith) | inr h ↦ f.1 h ]), w)

  race_of : (i j : ℕ) (a b : A) (earlier : List (Marked A)) → i < j → slice_get run i ≡ Some a → slice_get run j ≡ Some b → IsWalked i earlier j
      → IsTrue (R.conflict a b && not (follows R [] b earlier)) → IsRace R run i j
  race_of i j a b earlier l at_a at_b w h =
      let c = both (R.conflict a b) (not (follows R [] b earlier)) h in
      record {
        pair = record { first = a; second = b; earlier = l; at_first = at_a; at_second = at_b };
        conflict = c.0;
        unordered = λ g.
            let t : true ≡ false = sym ((follows_is i j b earlier at_b w).1 g) ∙ not_true (follows R [] b earlier) c.1 in cc;
      }

  test_of : (i j : ℕ) (a b : A) (earlier : List (Marked A)) → slice_get run i ≡ Some a → slice_get run j ≡ Some b → IsWalked i earlier j → IsRace R run i j
      → IsTrue (R.conflict a b && not (follows R [] b earlier))
  test_of i j a b earlier at_a at_b w race =
      and_true (R.conflict a b) (not (follows R [] b earlier))
      (subst (λ y. IsTrue (R.conflict a y)) (same_at j race.pair.second b race.pair.at_second at_b)
      (subst (λ x. IsTrue (R.conflict x race.pair.second)) (same_at i race.pair.first a race.pair.at_first at_a) race.conflict))
      (elim (is_or_not (follows R [] b earlier)) [
        | inl t ↦ absurd (race.unordered ((follows_is i j b earlier at_b w).0 t))
        | inr f ↦ not_false (follows R [] b earlier) f
      ])

  with_only : (i : ℕ) (a : A) → slice_get run i ≡ Some a → (rest : List A) (j : ℕ) (earlier : List (Marked A)) → i < j → IsWalked i earlier j → IsRest j rest
      → (x : ℕ × ℕ) → In x (races_with R a i earlier j rest) → IsRace R run x.0 x.1
  with_only i a at [] j earlier l w r x h = absurd h
  with_only i a at (b ∷ rest) j earlier l w r x h =
      let at_b = rest_first j b rest r in
      elim (in_cases x (pair_if (R.conflict a b && not (follows R [] b earlier)) i j) (races_with R a i (marked b (follows R [] b earlier) ∷ earlier) (suc j) rest) h) [
        | inl g ↦
            let p = pair_true (R.conflict a b && not (follows R [] b earlier)) i j x g in
            subst (λ (y : ℕ × ℕ). IsRace R run y.0 y.1) (sym p.1) (race_of i j a b earlier l at at_b w p.0)
        | inr g ↦
            with_only i a at rest (suc j) (marked b (follows R [] b earlier) ∷ earlier) (omega arith) (walked_next i j b earlier l at_b w) (rest_next j b rest r) x g
      ]

  with_each : (i : ℕ) (a : A) → slice_get run i ≡ Some a → (rest : List A) (j : ℕ) (earlier : List (Marked A)) → i < j → IsWalked i earlier j → IsRest j rest
      → (p : ℕ) → j ≤ p → IsRace R run i p → In (i, p) (races_with R a i earlier j rest)
  with_each i a at [] j earlier l w r p low race =
      let e : j + (p - j) ≡ p = omega arith in
      absurd (let g : None ≡ Some race.pair.second = sym (r (p - j)) ∙ (ap (λ n. slice_get run n) e ∙ race.pair.at_second) in cc)
  with_each i a at (b ∷ rest) j earlier l w r p low race =
      let at_b = rest_first j b rest r in
      let first = pair_if (R.conflict a b && not (follows R [] b earlier)) i j in
      let others = races_with R a i (marked b (follows R [] b earlier) ∷ earlier) (suc j) rest in
      elim (eqb_tells p j) [
        | inl q ↦
            in_left (i, p) first others
            (subst (λ n. In (i, n) first) (sym q.1)
            (pair_in (R.conflict a b && not (follows R [] b earlier)) i j (test_of i j a b earlier at at_b w (subst (λ n. IsRace R run i n) q.1 race))))
        | inr q ↦
            in_right (i, p) first others
            (with_each i a at rest (suc j) (marked b (follows R [] b earlier) ∷ earlier) (omega arith) (walked_next i j b earlier l at_b w) (rest_next j b rest r) p
            (let ne = q.1 in omega arith) race)
      ]

  starts_walk : (i : ℕ) (a : A) → slice_get run i ≡ Some a → IsWalked i (marked a true ∷ []) (suc i)
  starts_walk i a at = (i, refl, at, (λ h. inl refl, λ u. refl), refl)

  if_only : (i : ℕ) (a : A) (t : Bool) → slice_get run i ≡ Some a → (rest : List A) → IsRest (suc i) rest
      → (x : ℕ × ℕ) → In x (races_if R t a i rest) → IsRace R run x.0 x.1
  if_only i a true at rest r x h = with_only i a at rest (suc i) (marked a true ∷ []) (omega arith) (starts_walk i a at) r x h
  if_only i a false at rest r x h = absurd h

  if_each : (i : ℕ) (a : A) (rest : List A) (t : Bool) → list_any (R.conflict a) rest ≡ t → slice_get run i ≡ Some a → IsRest (suc i) rest
      → (p : ℕ) → IsRace R run i p → In (i, p) (races_if R t a i rest)
  if_each i a rest true is at r p race =
      with_each i a at rest (suc i) (marked a true ∷ []) (omega arith) (starts_walk i a at) r p (let l : i < p = race.pair.earlier in omega arith) race
  if_each i a rest false is at r p race =
      let l : i < p = race.pair.earlier in
      let e : suc i + (p - suc i) ≡ p = omega arith in
      let at_p : slice_get rest (p - suc i) ≡ Some race.pair.second = sym (r (p - suc i)) ∙ (ap (λ n. slice_get run n) e ∙ race.pair.at_second) in
      let none : R.conflict a race.pair.second ≡ false = any_none (R.conflict a) rest is (p - suc i) race.pair.second at_p in
      let some : R.conflict a race.pair.second ≡ true = subst (λ x. IsTrue (R.conflict x race.pair.second)) (same_at i race.pair.first a race.pair.at_first at) race.conflict in
      absurd (let g : true ≡ false = sym some ∙ none in cc)

  from_only : (rest : List A) (i : ℕ) → IsRest i rest → (x : ℕ × ℕ) → In x (races_from R i rest) → IsRace R run x.0 x.1
  from_only [] i r x h = absurd h
  from_only (a ∷ rest) i r x h =
      elim (in_cases x (races_if R (list_any (R.conflict a) rest) a i rest) (races_from R (suc i) rest) h) [
        | inl g ↦ if_only i a (list_any (R.conflict a) rest) (rest_first i a rest r) rest (rest_next i a rest r) x g
        | inr g ↦ from_only rest (suc i) (rest_next i a rest r) x g
      ]

  from_each : (rest : List A) (i : ℕ) → IsRest i rest → (q p : ℕ) → i ≤ q → IsRace R run q p → In (q, p) (races_from R i rest)
  from_each [] i r q p low race =
      let e : i + (q - i) ≡ q = omega arith in
      absurd (let g : None ≡ Some race.pair.first = sym (r (q - i)) ∙ (ap (λ n. slice_get run n) e ∙ race.pair.at_first) in cc)
  from_each (a ∷ rest) i r q p low race =
      let first = races_if R (list_any (R.conflict a) rest) a i rest in
      let others = races_from R (suc i) rest in
      elim (eqb_tells q i) [
        | inl g ↦
            in_left (q, p) first others
            (subst (λ n. In (n, p) first) (sym g.1)
            (if_each i a rest (list_any (R.conflict a) rest) refl (rest_first i a rest r) (rest_next i a rest r) p (subst (λ n. IsRace R run n p) g.1 race)))
        | inr g ↦ in_right (q, p) first others (from_each rest (suc i) (rest_next i a rest r) q p (let ne = g.1 in omega arith) race)
      ]

  whole : IsRest 0 run
  whole m = let e : 0 + m ≡ m = omega arith in ap (λ n. slice_get run n) e

  -- each pair that the test finds is a race
  pub races_only : (x : ℕ × ℕ) → In x (races_of R run) → IsRace R run x.0 x.1
  races_only x h = from_only run 0 whole x h

  -- and it finds each race
  pub races_each : (i j : ℕ) → IsRace R run i j → In (i, j) (races_of R run)
  races_each i j race = from_each run 0 whole i j (omega arith) race
