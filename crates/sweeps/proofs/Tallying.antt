-- What runs have shown, with one run more.
use Rattle.std.proofs.Common.{◌≡◌, ◌≤◌, ◌<◌, ◌+◌, ◌*◌, ◌-◌, ◌^◌, ℕ, suc, Bool, true, false, List, [], ◌∷◌, ◌++◌, length, map, cond, refl, sym, ap, subst, ◌∙◌, arith}
use Rattle.std.specs.Cmp.{IsEquivalence}
use Rattle.std.specs.List.{sum_by}
use Rattle.std.proofs.lemmas.List.{length-append, map-append}
use Rattle.std.proofs.lemmas.List.Sums.{sum_by_push}
use Rattle.model.specs.declared.event.Event.{Event}
use Rattle.model.specs.Schedule.{events_of}
use Rattle.program_runs.specs.declared.worlds.records.Recorded.{Recorded}
use Rattle.search.proofs.run_outcomes.SameLaws.{same_laws}
use Rattle.sweeps.specs.Firsts.{First, firsts}
use Rattle.sweeps.specs.Shown.{Shown, Ended, HasNoEnd, IsRefused, is_same_shown, show_same, shown_by}
use Rattle.sweeps.specs.Tallies.{AreFew, HasRoom, Same, TallyOf, same_as, tally_of, with_one_more, with_run}
use Rattle.sweeps.proofs.Adding.{added, one_run_more}

-- ---- a test of what is the same is an equivalence

itself : (s : Shown) → is_same_shown s s ≡ true
itself (Ended o) = same_laws.refl o
itself HasNoEnd = refl
itself IsRefused = refl

back : (s t : Shown) → is_same_shown s t ≡ is_same_shown t s
back (Ended o) (Ended p) = same_laws.symm o p
back (Ended o) HasNoEnd = refl
back (Ended o) IsRefused = refl
back HasNoEnd (Ended p) = refl
back HasNoEnd HasNoEnd = refl
back HasNoEnd IsRefused = refl
back IsRefused (Ended p) = refl
back IsRefused HasNoEnd = refl
back IsRefused IsRefused = refl

alike : (s t u : Shown) → is_same_shown s t ≡ true → is_same_shown s u ≡ is_same_shown t u
alike (Ended o) (Ended p) (Ended q) e = same_laws.congr o p q e
alike (Ended o) (Ended p) HasNoEnd e = refl
alike (Ended o) (Ended p) IsRefused e = refl
alike (Ended o) HasNoEnd u e = absurd cc
alike (Ended o) IsRefused u e = absurd cc
alike HasNoEnd (Ended p) u e = absurd cc
alike HasNoEnd HasNoEnd u e = refl
alike HasNoEnd IsRefused u e = absurd cc
alike IsRefused (Ended p) u e = absurd cc
alike IsRefused HasNoEnd u e = absurd cc
alike IsRefused IsRefused u e = refl

laws : IsEquivalence show_same
laws = record {
  refl = λ r. itself (shown_by r);
  symm = λ r s. back (shown_by r) (shown_by s);
  congr = λ r s t. alike (shown_by r) (shown_by s) (shown_by t);
}

-- ---- one run more

told_added : (r : Recorded) (seed : ℕ) (all : List (First Recorded))
    → map same_as (added show_same laws r seed all) ≡ with_one_more (shown_by r) (events_of r.schedule) seed (map same_as all)
told_added r seed [] = refl
told_added r seed (f ∷ all) = by (show_same r f.run) (told_added r seed all)
  where
    by : (b : Bool) → map same_as (added show_same laws r seed all) ≡ with_one_more (shown_by r) (events_of r.schedule) seed (map same_as all)
        → map same_as (cond b (record f { count = f.count + 1 } ∷ all) (f ∷ added show_same laws r seed all))
        ≡ cond b (record (same_as f) { count = f.count + 1 } ∷ map same_as all)
        (same_as f ∷ with_one_more (shown_by r) (events_of r.schedule) seed (map same_as all))
    by true h = refl
    by false h = ap (λ l. same_as f ∷ l) h

pub one_more : (seed : ℕ) (runs : List Recorded) (r : Recorded)
    → with_run (shown_by r) (events_of r.schedule) r.report.events (seed + length runs) (tally_of seed runs) ≡ tally_of seed (runs ++ r ∷ [])
one_more seed runs r =
    let same : with_one_more (shown_by r) (events_of r.schedule) (seed + length runs) (map same_as (firsts show_same seed runs))
    ≡ map same_as (firsts show_same seed (runs ++ r ∷ [])) =
    sym (told_added r (seed + length runs) (firsts show_same seed runs)) ∙ ap (map same_as) (one_run_more show_same laws seed runs r)
    in
    let count : length runs + 1 ≡ length (runs ++ r ∷ []) = sym (length-append runs (r ∷ [])) in
    let events : sum_by (λ (x : Recorded). x.report.events) runs + r.report.events ≡ sum_by (λ (x : Recorded). x.report.events) (runs ++ r ∷ []) =
    sym (sum_by_push (λ (x : Recorded). x.report.events) runs r)
    in
    all_three same count events
  where
    tally : List Same → (count sum : ℕ) → TallyOf
    tally same count sum = record { same = same; runs = count; events = sum }

    all_three : {s t : List Same} {m n i j : ℕ} → s ≡ t → m ≡ n → i ≡ j → tally s m i ≡ tally t n j
    all_three {s} {t} {m} {n} {i} {j} p q w = ap (λ l. tally l m i) p ∙ (ap (λ k. tally t k i) q ∙ ap (tally t n) w)

-- ---- numbers stay in range

few_of_more : (most : ℕ) (all : List Same) → AreFew most all → AreFew (most + 1) all
few_of_more most [] h = tt
few_of_more most (s ∷ all) h = (omega (arith, h.0), few_of_more most all h.1)

few_with : (shown : Shown) (events : List Event) (seed most : ℕ) (all : List Same) → AreFew most all → AreFew (most + 1) (with_one_more shown events seed all)
few_with shown events seed most [] h = (omega arith, tt)
few_with shown events seed most (s ∷ all) h = by (is_same_shown shown s.shown) (few_with shown events seed most all h.1)
  where
    by : (b : Bool) → AreFew (most + 1) (with_one_more shown events seed all)
        → AreFew (most + 1) (cond b (record s { count = s.count + 1 } ∷ all) (s ∷ with_one_more shown events seed all))
    by true others = (omega (arith, h.0), few_of_more most all h.1)
    by false others = (omega (arith, h.0), others)

pub room_with : (shown : Shown) (events : List Event) (count seed : ℕ) (t : TallyOf) → t.runs < 2 ^ 64 → count < 2 ^ 64 → HasRoom t
    → HasRoom (with_run shown events count seed t)
room_with shown events count seed t less fits h = record {
  runs = omega (arith, less);
  counts = few_with shown events seed t.runs t.same h.counts;
  events = omega (arith, h.events, fits);
}

-- so far a number is in range that is counted up
pub few_up_to : (most more : ℕ) (all : List Same) → most ≤ more → AreFew most all → AreFew more all
few_up_to most more [] le h = tt
few_up_to most more (s ∷ all) le h = (omega (arith, le, h.0), few_up_to most more all le h.1)
