-- The text of a sweep, as far as it has been written.
use Rattle.std.proofs.Common.{◌≡◌, ◌≤◌, ◌<◌, ◌+◌, ◌++◌, ℕ, suc, Bool, List, [], ◌∷◌, length, map, drop, get_or, cond, refl, sym, ap, subst, ◌∙◌, append_assoc, arith}
use Rattle.std.specs.Prelude.{count_by}
use Rattle.std.specs.List.{flat_map}
use Rattle.std.proofs.Math.Seq.{drop-cons}
use Rattle.std.proofs.Math.ListN.{drop_of_length-le}
use Rattle.std.proofs.lemmas.List.{append-nil}
use Rattle.std.proofs.lemmas.List.Sums.{sum_by-cons}
use Rattle.sweeps.specs.declared.same_runs.SameRuns.{SameRuns}
use Rattle.sweeps.specs.Shown.{Shown, Ended, HasNoEnd, IsRefused, shown_in}
use Rattle.sweeps.specs.Tallies.{Same, same_in}
use Rattle.sweeps.specs.Texts.{cut_part, cut_texts, next_number, outcome_part, outcome_texts}

-- ---- one of those that are listed

module _ (listed : List SameRuns) (at : ℕ) (s : SameRuns) (lt : at < length listed) (is : s ≡ get_or listed at s) where
  abbrev behind : List Same
  behind = map same_in (drop (at + 1) listed)

  rest : map same_in (drop at listed) ≡ same_in s ∷ behind
  rest =
      let next : suc at ≡ at + 1 = omega arith in
      ap (map same_in) (drop-cons listed at s lt ∙ ap (λ y. y ∷ drop (suc at) listed) (sym is)) ∙ ap (λ n. same_in s ∷ map same_in (drop n listed)) next

  pub outcome_step : (all : ℕ) (whole text new : List ℕ) (number : ℕ) → text ++ outcome_texts all number (map same_in (drop at listed)) ≡ whole
      → new ≡ text ++ outcome_part (shown_in s.shown) all number (same_in s)
      → new ++ outcome_texts all (next_number (shown_in s.shown) number) behind ≡ whole
  outcome_step all whole text new number h e =
      let part = outcome_part (shown_in s.shown) all number (same_in s) in
      let others = outcome_texts all (next_number (shown_in s.shown) number) behind in
      ap (λ t. t ++ others) e ∙ (append_assoc text part others ∙ (ap (λ l. text ++ outcome_texts all number l) (sym rest) ∙ h))

  pub cut_step : (whole text new : List ℕ) → text ++ cut_texts (map same_in (drop at listed)) ≡ whole
      → new ≡ text ++ cut_part (shown_in s.shown) (same_in s) → new ++ cut_texts behind ≡ whole
  cut_step whole text new h e =
      let part = cut_part (shown_in s.shown) (same_in s) in
      ap (λ t. t ++ cut_texts behind) e ∙ (append_assoc text part (cut_texts behind) ∙ (ap (λ l. text ++ cut_texts l) (sym rest) ∙ h))

-- numbers go up by no more than one
pub next_is_near : (shown : Shown) (number at : ℕ) → number ≤ at + 1 → next_number shown number ≤ at + 1 + 1
next_is_near (Ended o) number at le = omega (arith, le)
next_is_near HasNoEnd number at le = omega (arith, le)
next_is_near IsRefused number at le = omega (arith, le)

-- ---- all of them

pub outcomes_end : (listed : List SameRuns) (at all number : ℕ) (whole text : List ℕ) → length listed ≤ at
    → text ++ outcome_texts all number (map same_in (drop at listed)) ≡ whole → text ≡ whole
outcomes_end listed at all number whole text le h =
    let none : drop at listed ≡ [] = drop_of_length-le listed le in
    sym (append-nil text) ∙ (ap (λ l. text ++ outcome_texts all number (map same_in l)) (sym none) ∙ h)

pub cuts_end : (listed : List SameRuns) (at : ℕ) (whole text : List ℕ) → length listed ≤ at → text ++ cut_texts (map same_in (drop at listed)) ≡ whole
    → text ≡ whole
cuts_end listed at whole text le h =
    let none : drop at listed ≡ [] = drop_of_length-le listed le in
    sym (append-nil text) ∙ (ap (λ l. text ++ cut_texts (map same_in l)) (sym none) ∙ h)

-- ---- how many

pub count_through : (p : Same → Bool) (listed : List SameRuns) → count_by p (map same_in listed) ≡ count_by (λ s. p (same_in s)) listed
count_through p [] = refl
count_through p (s ∷ listed) =
    sum_by-cons (λ x. cond (p x) 1 0) (same_in s) (map same_in listed)
    ∙ (ap (λ n. cond (p (same_in s)) 1 0 + n) (count_through p listed) ∙ sym (sum_by-cons (λ x. cond (p (same_in x)) 1 0) s listed))
