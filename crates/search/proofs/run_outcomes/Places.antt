-- Where an outcome is to be inserted, as far as a loop has come; and how two lists of standings compare.
use Rattle.std.proofs.Common.{◌≡◌, ◌<◌, ◌≤◌, ℕ, suc, ◌+◌, ◌-◌, min, List, [], ◌∷◌, ◌++◌, length, map, take, drop, get_or, Bool, ◌||◌, refl, sym, ap, ◌∙◌, subst, append_assoc, arith, length-drop}
use Rattle.std.specs.Prelude.{IsTrue}
use Rattle.std.specs.Cmp.Lexicographic.{slice_cmp}
use Rattle.std.specs.List.{insert, list_any}
use Rattle.std.specs.BTreeSet.{insert_key}
use Rattle.std.specs.Ordering.{nat_cmp, match_ordering, ordering_then}
use Rattle.std.specs.declared.cmp.Ordering.{Ordering}
use Rattle.std.specs.declared.cmp.Ordering.TheVariants.{Less, Equal, Greater}
use Rattle.std.proofs.Math.Seq.{drop-cons}
use Rattle.std.proofs.Math.ListN.{drop_of_length-le}
use Rattle.std.proofs.lemmas.Bool.Decides.{nat_tests}
use Rattle.std.proofs.lemmas.List.{take_more, take-append-drop, take-map, drop-map, map-append, get_or-map, length-map}
use Rattle.model.specs.declared.report.EndState.{EndState}
use Rattle.model.specs.Report.{ThreadEnd, end_state_of}
use Rattle.run_laws.specs.interleavings.Ends.{Outcome}
use Rattle.search.specs.declared.run_outcomes.outcomes.Outcome.{Outcome as TheOutcome}
use Rattle.search.specs.declared.run_outcomes.wanted.Wanted.{Wanted}
use Rattle.search.specs.declared.run_outcomes.wanted.Wanted.TheVariants as wanted
use Rattle.search.specs.run_outcomes.Outcomes.{told_by, is_stuck, has_thrown, IsWanted, end_cmp, outcome_cmp, AreInOrder, IsAdded}
use Rattle.search.proofs.run_outcomes.Lists.{added, in_order}

-- ---- a place

-- the outcome belongs behind so many
abbrev pub IsBehind : (outcomes : List Outcome) → Outcome → ℕ → Type 0
IsBehind outcomes o at = insert_key outcome_cmp outcomes o ≡ take at outcomes ++ insert_key outcome_cmp (drop at outcomes) o

module _ (outcomes : List Outcome) (o : Outcome) (at : ℕ) (x : Outcome) (lt : at < length outcomes) (is : x ≡ get_or outcomes at x) where
  rest : drop at outcomes ≡ x ∷ drop (suc at) outcomes
  rest = drop-cons outcomes at x lt ∙ ap (λ y. y ∷ drop (suc at) outcomes) (sym is)

  step : (c : Ordering) → outcome_cmp o x ≡ c → IsBehind outcomes o at
      → insert_key outcome_cmp outcomes o ≡ take at outcomes
      ++ match_ordering c (o ∷ x ∷ drop (suc at) outcomes) (x ∷ drop (suc at) outcomes) (x
      ∷ insert_key outcome_cmp (drop (suc at) outcomes) o)
  step c e h =
      h ∙ (ap (λ l. take at outcomes ++ insert_key outcome_cmp l o) rest
      ∙ ap (λ d. take at outcomes ++ match_ordering d (o ∷ x ∷ drop (suc at) outcomes) (x ∷ drop (suc at) outcomes) (x ∷ insert_key outcome_cmp (drop (suc at) outcomes) o)) e)

  pub here : outcome_cmp o x ≡ Less → IsBehind outcomes o at → insert_key outcome_cmp outcomes o ≡ insert outcomes at o
  here e h = step Less e h ∙ ap (λ l. take at outcomes ++ o ∷ l) (sym rest)

  pub there : outcome_cmp o x ≡ Equal → IsBehind outcomes o at → insert_key outcome_cmp outcomes o ≡ outcomes
  there e h = step Equal e h ∙ (ap (λ l. take at outcomes ++ l) (sym rest) ∙ take-append-drop at outcomes)

  pub beyond : outcome_cmp o x ≡ Greater → IsBehind outcomes o at → IsBehind outcomes o (at + 1)
  beyond e h =
      let front : take (at + 1) outcomes ≡ take at outcomes ++ x ∷ [] = take_more outcomes at x lt ∙ ap (λ y. take at outcomes ++ y ∷ []) (sym is) in
      let next : suc at ≡ at + 1 = omega arith in
      step Greater e h
      ∙ (sym (append_assoc (take at outcomes) (x ∷ []) (insert_key outcome_cmp (drop (suc at) outcomes) o))
      ∙ (ap (λ l. l ++ insert_key outcome_cmp (drop (suc at) outcomes) o) (sym front)
      ∙ ap (λ n. take (at + 1) outcomes ++ insert_key outcome_cmp (drop n outcomes) o) next))

pub at_end : (outcomes : List Outcome) (o : Outcome) (at : ℕ) → length outcomes ≤ at → IsBehind outcomes o at
    → insert_key outcome_cmp outcomes o ≡ insert outcomes at o
at_end outcomes o at le h =
    let none : drop at outcomes ≡ [] = drop_of_length-le outcomes le in
    h ∙ (ap (λ l. take at outcomes ++ insert_key outcome_cmp l o) none ∙ ap (λ l. take at outcomes ++ o ∷ l) (sym none))

-- ---- outcomes by what they tell

module _ {X Y : Type 0} (f : X → Y) (xs : List X) (at : ℕ) (x : X) (lt : at < length xs) (is : x ≡ get_or xs at x) where
  image_there : at < length (map f xs)
  image_there = omega (arith, length-map xs f, lt)

  image : f x ≡ get_or (map f xs) at (f x)
  image = ap f is ∙ sym (get_or-map f xs at x (f x) lt)

module _ (listed : List TheOutcome) (outcome : TheOutcome) (at : ℕ) (x : TheOutcome) (lt : at < length listed)
    (is : x ≡ get_or listed at x) (behind : IsBehind (map told_by listed) (told_by outcome) at)
    (c : Ordering) (compared : c ≡ outcome_cmp (told_by outcome) (told_by x)) where
  pub told_here : c ≡ Less → insert_key outcome_cmp (map told_by listed) (told_by outcome)
      ≡ insert (map told_by listed) at (told_by outcome)
  told_here e = here (map told_by listed) (told_by outcome) at (told_by x) (image_there told_by listed at x lt is) (image told_by listed at x lt is) (sym compared ∙ e) behind

  pub told_there : c ≡ Equal → insert_key outcome_cmp (map told_by listed) (told_by outcome) ≡ map told_by listed
  told_there e = there (map told_by listed) (told_by outcome) at (told_by x) (image_there told_by listed at x lt is) (image told_by listed at x lt is) (sym compared ∙ e) behind

  pub told_beyond : c ≡ Greater → IsBehind (map told_by listed) (told_by outcome) (at + 1)
  told_beyond e = beyond (map told_by listed) (told_by outcome) at (told_by x) (image_there told_by listed at x lt is) (image told_by listed at x lt is) (sym compared ∙ e) behind

pub told_last : (listed : List TheOutcome) (outcome : TheOutcome) (at : ℕ) → at ≤ length listed → length listed ≤ at
    → IsBehind (map told_by listed) (told_by outcome) at
    → insert_key outcome_cmp (map told_by listed) (told_by outcome) ≡ insert (map told_by listed) (length listed) (told_by outcome)
told_last listed outcome at most least behind =
    let same : at ≡ length listed = omega (arith, most, least) in
    let all : length (map told_by listed) ≤ at = omega (arith, length-map listed told_by, least) in
    at_end (map told_by listed) (told_by outcome) at all behind ∙ ap (λ n. insert (map told_by listed) n (told_by outcome)) same

-- what is inserted, is inserted in what is told
pub told_inserted : (listed : List TheOutcome) (outcome : TheOutcome) (at : ℕ)
    → map told_by (insert listed at outcome) ≡ insert (map told_by listed) at (told_by outcome)
told_inserted listed outcome at =
    map-append told_by (take at listed) (outcome ∷ drop at listed)
    ∙ (ap (λ l. l ++ told_by outcome ∷ map told_by (drop at listed)) (sym (take-map told_by at listed))
    ∙ ap (λ l. take at (map told_by listed) ++ told_by outcome ∷ l) (sym (drop-map told_by at listed)))

-- ---- numbers

itself : (n : ℕ) → nat_cmp n n ≡ Equal
itself n = grind (arith, nat_tests)

below : (n m : ℕ) → n < m → nat_cmp n m ≡ Less
below n m lt = grind (arith, nat_tests)

above : (n m : ℕ) → m < n → nat_cmp n m ≡ Greater
above n m lt = grind (arith, nat_tests)

-- ---- two lists

module _ {X : Type 0} (cmp : X → X → Ordering) where
  -- so many are equal, one by one
  abbrev pub AreLevel : (xs ys : List X) → ℕ → Type 0
  AreLevel xs ys at = slice_cmp cmp xs ys ≡ slice_cmp cmp (drop at xs) (drop at ys)

  pub level_step : (xs ys : List X) (at : ℕ) (x y : X) → at < length xs → at < length ys → x ≡ get_or xs at x → y ≡ get_or ys at y
      → (c : Ordering) → cmp x y ≡ c → AreLevel xs ys at
      → slice_cmp cmp xs ys ≡ ordering_then c (slice_cmp cmp (drop (suc at) xs) (drop (suc at) ys))
  level_step xs ys at x y ltx lty isx isy c e h =
      let restx = drop-cons xs at x ltx ∙ ap (λ z. z ∷ drop (suc at) xs) (sym isx) in
      let resty = drop-cons ys at y lty ∙ ap (λ z. z ∷ drop (suc at) ys) (sym isy) in
      h ∙ (ap (λ l. slice_cmp cmp l (drop at ys)) restx
      ∙ (ap (λ l. slice_cmp cmp (x ∷ drop (suc at) xs) l) resty
      ∙ ap (λ d. ordering_then d (slice_cmp cmp (drop (suc at) xs) (drop (suc at) ys))) e))

  -- all of the shorter one are: they compare as their lengths do
  pub level_end : (xs ys : List X) (at : ℕ) → at ≡ min (length xs) (length ys) → AreLevel xs ys at
      → nat_cmp (length xs) (length ys) ≡ slice_cmp cmp xs ys
  level_end xs ys at e h = by (drop at xs) (drop at ys) (length-drop at xs) (length-drop at ys) ∙ sym h
    where
      by : (left right : List X) → length left ≡ length xs - at → length right ≡ length ys - at
          → nat_cmp (length xs) (length ys) ≡ slice_cmp cmp left right
      by [] [] p q = let same : length xs ≡ length ys = omega (arith, e, p, q) in ap (nat_cmp (length xs)) (sym same) ∙ itself (length xs)
      by [] (y ∷ right) p q = below (length xs) (length ys) (omega (arith, e, p, q))
      by (x ∷ left) [] p q = above (length xs) (length ys) (omega (arith, e, p, q))
      by (x ∷ left) (y ∷ right) p q = absurd (omega (arith, e, p, q))

module _ (one other : List EndState) (at : ℕ) (least : ℕ) (shorter : least ≡ min (length one) (length other))
    (level : AreLevel end_cmp (map end_state_of one) (map end_state_of other) at) where
  module _ (lt : at < least) (x y : EndState) (isx : x ≡ get_or one at x) (isy : y ≡ get_or other at y) (c : Ordering) (compared : c ≡ end_cmp (end_state_of x) (end_state_of y)) where
    ends_step : (d : Ordering) → c ≡ d
        → slice_cmp end_cmp (map end_state_of one) (map end_state_of other)
        ≡ ordering_then d (slice_cmp end_cmp (drop (suc at) (map end_state_of one)) (drop (suc at) (map end_state_of other)))
    ends_step d e =
        let ltx : at < length one = omega (arith, lt, shorter) in
        let lty : at < length other = omega (arith, lt, shorter) in
        level_step end_cmp (map end_state_of one) (map end_state_of other) at (end_state_of x) (end_state_of y) (image_there end_state_of one at x ltx isx)
        (image_there end_state_of other at y lty isy) (image end_state_of one at x ltx isx) (image end_state_of other at y lty isy) d (sym compared ∙ e) level

    pub ends_less : c ≡ Less → Less ≡ slice_cmp end_cmp (map end_state_of one) (map end_state_of other)
    ends_less e = sym (ends_step Less e)

    pub ends_greater : c ≡ Greater → Greater ≡ slice_cmp end_cmp (map end_state_of one) (map end_state_of other)
    ends_greater e = sym (ends_step Greater e)

    pub ends_equal : c ≡ Equal → AreLevel end_cmp (map end_state_of one) (map end_state_of other) (at + 1)
    ends_equal e =
        let next : suc at ≡ at + 1 = omega arith in
        ends_step Equal e ∙ ap (λ n. slice_cmp end_cmp (drop n (map end_state_of one)) (drop n (map end_state_of other))) next

  pub ends_all : at ≤ least → least ≤ at → (c : Ordering) → c ≡ nat_cmp (length one) (length other)
      → c ≡ slice_cmp end_cmp (map end_state_of one) (map end_state_of other)
  ends_all most all c compared =
      let here : at ≡ min (length (map end_state_of one)) (length (map end_state_of other)) = omega (arith, most, all, shorter, length-map one end_state_of, length-map other end_state_of) in
      compared
      ∙ (ap (λ n. nat_cmp n (length other)) (sym (length-map one end_state_of))
      ∙ (ap (λ n. nat_cmp (length (map end_state_of one)) n) (sym (length-map other end_state_of)) ∙ level_end end_cmp (map end_state_of one) (map end_state_of other) at here level))

-- ---- one of them passes a test

pub any_of : (p : ThreadEnd → Bool) (ends : List EndState)
    → list_any (λ end. p (end_state_of end)) ends ≡ list_any p (map end_state_of ends)
any_of p [] = refl
any_of p (end ∷ ends) = ap (λ b. p (end_state_of end) || b) (any_of p ends)

module _ (o : TheOutcome) (ends : List EndState) (are : ends ≡ o.threads.items) (b : Bool) where
  told_any : (p : ThreadEnd → Bool) → b ≡ list_any (λ end. p (end_state_of end)) ends → b ≡ list_any p (map end_state_of o.threads.items)
  told_any p e = e ∙ (any_of p ends ∙ ap (λ l. list_any p (map end_state_of l)) are)

pub stuck_told : (want : Wanted) → want ≡ wanted.Stuck → (o : TheOutcome) (ends : List EndState) → ends ≡ o.threads.items → (b : Bool)
    → b ≡ list_any (λ end. is_stuck (end_state_of end)) ends
    → (IsTrue b → IsWanted want (told_by o)) × (IsWanted want (told_by o) → IsTrue b)
stuck_told want is o ends are b e =
    let same = told_any o ends are b is_stuck e in (
      λ t. subst (λ w. IsWanted w (told_by o)) (sym is) (sym same ∙ t),
      λ w. same ∙ subst (λ v. IsWanted v (told_by o)) is w,
    )

pub thrown_told : (want : Wanted) → want ≡ wanted.Uncaught → (o : TheOutcome) (ends : List EndState) → ends ≡ o.threads.items → (b : Bool)
    → b ≡ list_any (λ end. has_thrown (end_state_of end)) ends
    → (IsTrue b → IsWanted want (told_by o)) × (IsWanted want (told_by o) → IsTrue b)
thrown_told want is o ends are b e =
    let same = told_any o ends are b has_thrown e in (
      λ t. subst (λ w. IsWanted w (told_by o)) (sym is) (sym same ∙ t),
      λ w. same ∙ subst (λ v. IsWanted v (told_by o)) is w,
    )

-- ---- a list that is shown

module _ (shown : List Outcome) (listed lent : List TheOutcome) (o : TheOutcome) (are : map told_by listed ≡ shown)
    (same : lent ≡ listed) where
  seen : map told_by lent ≡ shown
  seen = ap (map told_by) same ∙ are

  pub added_none : insert_key outcome_cmp (map told_by lent) (told_by o) ≡ map told_by lent → IsAdded (told_by o) shown shown
  added_none e = subst (λ l. IsAdded (told_by o) l l) seen (subst (IsAdded (told_by o) (map told_by lent)) e (added (told_by o) (map told_by lent)))

  module _ (at : ℕ) (new : List TheOutcome) (place : insert_key outcome_cmp (map told_by lent) (told_by o) ≡ insert (map told_by lent) at (told_by o)) (new_is : new ≡ insert listed at o) where
    inserted : insert_key outcome_cmp (map told_by lent) (told_by o) ≡ map told_by new
    inserted =
        place ∙ (sym (told_inserted lent o at) ∙ (ap (λ l. map told_by (insert l at o)) same ∙ ap (map told_by) (sym new_is)))

    pub added_some : IsAdded (told_by o) shown (map told_by new)
    added_some = subst (λ l. IsAdded (told_by o) l (map told_by new)) seen (subst (IsAdded (told_by o) (map told_by lent)) inserted (added (told_by o) (map told_by lent)))

    pub still_in_order : AreInOrder (map told_by listed) → AreInOrder (map told_by new)
    still_in_order h = subst AreInOrder inserted (in_order (told_by o) (map told_by lent) (subst (λ l. AreInOrder (map told_by l)) (sym same) h))
