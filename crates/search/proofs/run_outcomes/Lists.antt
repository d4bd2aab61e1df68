-- What a list in order is with one more outcome.
use Rattle.std.proofs.Common.{◌≡◌, ℕ, zero, suc, ◌⊎◌, inl, inr, List, [], ◌∷◌, Some, refl, sym, ap, ◌∙◌, subst}
use Rattle.std.specs.Prelude.{slice_get}
use Rattle.std.specs.List.{AllByRecursion}
use Rattle.std.specs.List.Sorted.{IsStrictlySortedBy}
use Rattle.std.specs.BTreeSet.{insert_key}
use Rattle.std.specs.Ordering.{ordering_reverse, match_ordering}
use Rattle.std.specs.declared.cmp.Ordering.{Ordering}
use Rattle.std.specs.declared.cmp.Ordering.TheVariants.{Less, Equal, Greater}
use Rattle.run_laws.specs.interleavings.Ends.{Outcome, Has}
use Rattle.search.specs.run_outcomes.Outcomes.{outcome_cmp, AreInOrder, IsAdded}
use Rattle.search.proofs.run_outcomes.Orders.{outcomes_total, same_outcome}

pub none_in_order : AreInOrder []
unfolding IsStrictlySortedBy
none_in_order = tt

-- ---- members

first_of : (x : Outcome) (xs : List Outcome) → Has (x ∷ xs) x
first_of x xs = (0, refl)

further : (x : Outcome) (xs : List Outcome) (y : Outcome) → Has xs y → Has (x ∷ xs) y
further x xs y h = (suc h.0, h.1)

-- it is the first, or one of the others
either : (x : Outcome) (xs : List Outcome) (y : Outcome) → Has (x ∷ xs) y → (x ≡ y) ⊎ Has xs y
either x xs y h = by h.0 h.1
  where
    by : (k : ℕ) → slice_get (x ∷ xs) k ≡ Some y → (x ≡ y) ⊎ Has xs y
    by zero e = let same : x ≡ y = cc in inl same
    by (suc k) e = inr (k, e)

-- ---- one more

module _ (o : Outcome) where
  new_first : (x : Outcome) (xs : List Outcome) → IsAdded o (x ∷ xs) (o ∷ x ∷ xs)
  new_first x xs = record {
    has = first_of o (x ∷ xs);
    kept = λ y h. further o (x ∷ xs) y h;
    only = λ y h. elim (either o (x ∷ xs) y h) [ inl e ↦ inr (sym e) | inr r ↦ inl r ];
  }

  there_already : (x : Outcome) (xs : List Outcome) → o ≡ x → IsAdded o (x ∷ xs) (x ∷ xs)
  there_already x xs e = record {
    has = subst (Has (x ∷ xs)) (sym e) (first_of x xs);
    kept = λ y h. h;
    only = λ y h. inl h;
  }

  behind : (x : Outcome) (xs new : List Outcome) → IsAdded o xs new → IsAdded o (x ∷ xs) (x ∷ new)
  behind x xs new h = record {
    has = further x new o h.has;
    kept = λ y r. elim (either x xs y r) [ inl e ↦ subst (Has (x ∷ new)) e (first_of x new) | inr q ↦ further x new y (h.kept y q) ];
    only = λ y r. elim (either x new y r) [ inl e ↦ inl (subst (Has (x ∷ xs)) e (first_of x xs)) | inr q ↦ earlier y (h.only y q) ];
  }
    where
      earlier : (y : Outcome) → Has xs y ⊎ (y ≡ o) → Has (x ∷ xs) y ⊎ (y ≡ o)
      earlier y (inl q) = inl (further x xs y q)
      earlier y (inr e) = inr e

  pub added : (xs : List Outcome) → IsAdded o xs (insert_key outcome_cmp xs o)
  added [] = record {
    has = first_of o [];
    kept = λ y h. further o [] y h;
    only = λ y h. elim (either o [] y h) [ inl e ↦ inr (sym e) | inr r ↦ inl r ];
  }
  added (x ∷ xs) = by (outcome_cmp o x) refl (added xs)
    where
      by : (c : Ordering) → outcome_cmp o x ≡ c → IsAdded o xs (insert_key outcome_cmp xs o)
          → IsAdded o (x ∷ xs) (match_ordering c (o ∷ x ∷ xs) (x ∷ xs) (x ∷ insert_key outcome_cmp xs o))
      by Less e h = new_first x xs
      by Equal e h = there_already x xs (same_outcome o x e)
      by Greater e h = behind x xs (insert_key outcome_cmp xs o) h

  -- ---- in order

  all_after : (x : Outcome) (xs : List Outcome) → outcome_cmp x o ≡ Less → AllByRecursion (λ y. outcome_cmp x y ≡ Less) xs
      → AllByRecursion (λ y. outcome_cmp x y ≡ Less) (insert_key outcome_cmp xs o)
  all_after x [] e h = (e, tt)
  all_after x (y ∷ xs) e h = by (outcome_cmp o y) (all_after x xs e h.1)
    where
      by : (c : Ordering) → AllByRecursion (λ z. outcome_cmp x z ≡ Less) (insert_key outcome_cmp xs o)
          → AllByRecursion (λ z. outcome_cmp x z ≡ Less) (match_ordering c (o ∷ y ∷ xs) (y ∷ xs) (y ∷ insert_key outcome_cmp xs o))
      by Less r = (e, h)
      by Equal r = h
      by Greater r = (h.0, r)

  all_below : (x : Outcome) (xs : List Outcome) → outcome_cmp o x ≡ Less → AllByRecursion (λ y. outcome_cmp x y ≡ Less) xs
      → AllByRecursion (λ y. outcome_cmp o y ≡ Less) xs
  all_below x [] e h = tt
  all_below x (y ∷ xs) e h = (outcomes_total.trans o x y e h.0, all_below x xs e h.1)

  pub in_order : (xs : List Outcome) → AreInOrder xs → AreInOrder (insert_key outcome_cmp xs o)
  unfolding IsStrictlySortedBy
  in_order [] h = (tt, tt)
  in_order (x ∷ xs) h = by (outcome_cmp o x) refl (in_order xs h.1)
    where
      by : (c : Ordering) → outcome_cmp o x ≡ c → AreInOrder (insert_key outcome_cmp xs o)
          → AreInOrder (match_ordering c (o ∷ x ∷ xs) (x ∷ xs) (x ∷ insert_key outcome_cmp xs o))
      by Less e r = ((e, all_below x xs e h.0), h)
      by Equal e r = h
      by Greater e r = (all_after x xs (outcomes_total.antisymm x o ∙ ap ordering_reverse e) h.0, r)
