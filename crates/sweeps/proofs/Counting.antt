-- One run more, among those that show the same.
use Rattle.std.proofs.Common.{◌≡◌, ◌≤◌, ◌<◌, ◌+◌, ◌++◌, ℕ, zero, suc, Bool, List, [], ◌∷◌, Option, Some, None, length, map, get_or, set, cond, refl, sym, ap, ◌∙◌, arith}
use Rattle.std.specs.List.{position}
use Rattle.std.proofs.lemmas.List.{map-append}
use Rattle.model.specs.declared.event.Event.{Event}
use Rattle.model.specs.Schedule.{events_of}
use Rattle.sweeps.specs.declared.same_runs.SameRuns.{SameRuns}
use Rattle.sweeps.specs.Shown.{Shown, is_same_shown, shown_in}
use Rattle.sweeps.specs.Tallies.{AreFew, IsCountedAt, Same, same_in, with_one_more}
use Rattle.sweeps.proofs.Places.{found, more, placed_none, placed_some}

-- no count is too great at a place
pub few_at : (most : ℕ) (listed : List SameRuns) (at : ℕ) (s : SameRuns) → at < length listed → s ≡ get_or listed at s → AreFew most (map same_in listed) → s.count ≤ most
few_at most [] at s lt is few = absurd (omega (arith, lt))
few_at most (x ∷ listed) zero s lt is few = let same : s.count ≡ x.count = ap (λ (r : SameRuns). r.count) is in omega (arith, same, few.0)
few_at most (x ∷ listed) (suc at) s lt is few = few_at most listed at s (omega (arith, lt)) is few.1

module _ (shown : Shown) (events : List Event) (seed : ℕ) where
  abbrev again : Same → Same
  again s = record s { count = s.count + 1 }

  abbrev new : Same
  new = record { shown = shown; count = 1; first = seed; events = events }

  abbrev shows : Same → Bool
  shows s = is_same_shown shown s.shown

  as_more : (all : List Same) → with_one_more shown events seed all ≡ more same_in shows again new all
  as_more [] = refl
  as_more (s ∷ all) = ap (λ l. cond (shows s) (again s ∷ all) (s ∷ l)) (as_more all)

  pub counted : (old new_list : List SameRuns) (at : ℕ) → Some at ≡ position (λ s. is_same_shown shown (shown_in s.shown)) old → IsCountedAt at old new_list
      → map same_in new_list ≡ with_one_more shown events seed (map same_in old)
  counted old new_list at place is =
      let one = found same_in shows again new old at (sym place) in
      let made = is one.0 one.1 in
      ap (map same_in) made
      ∙ (sym (placed_some same_in shows again new old at (sym place) one.0 (record (one.0) { count = one.0.count + 1 }) one.1 refl) ∙ sym (as_more (map same_in old)))

  pub added : (old new_list : List SameRuns) (s : SameRuns) → None ≡ position (λ x. is_same_shown shown (shown_in x.shown)) old → new_list ≡ old ++ s ∷ []
      → same_in s ≡ new → map same_in new_list ≡ with_one_more shown events seed (map same_in old)
  added old new_list s place is same =
      ap (map same_in) is
      ∙ (map-append same_in old (s ∷ [])
      ∙ (ap (λ x. map same_in old ++ x ∷ []) same
      ∙ (sym (placed_none same_in shows again new old (sym place)) ∙ sym (as_more (map same_in old)))))
