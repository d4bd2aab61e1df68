-- The text of what comes of a sweep (own).
use Rattle.std.specs.Prelude.{◌≡◌, ◌+◌, ◌-◌, ◌==◌, ◌&&◌, ℕ, suc, pos, Bool, true, false, List, [], ◌∷◌, ◌++◌, codes, count_by, min, refl}
use Rattle.std.specs.Fmt.{digits}
use Rattle.std.specs.List.{flat_map}
use Rattle.std.specs.Char.{encode_utf8}
use Rattle.std.specs.Char.Utf16.{utf16_chars}
use Rattle.model.specs.Texts.{number_line}
use Rattle.model.specs.Report.{Ended as ended, Blocked as blocked, line, number}
use Rattle.run_laws.specs.interleavings.Ends.{Outcome}
use Rattle.search.specs.search_reports.Reports.{outcome_text}
use Rattle.sweeps.specs.declared.policy_runs.SeededPolicy.{SeededPolicy}
use Rattle.sweeps.specs.declared.policy_runs.SeededPolicy.TheVariants as seeded
use Rattle.sweeps.specs.declared.sweeping.SweepEnd.{SweepEnd}
use Rattle.sweeps.specs.declared.sweeping.SweepEnd.TheVariants as ends
use Rattle.sweeps.specs.Policies.{name_of}
use Rattle.sweeps.specs.Shown.{Shown, Ended, HasNoEnd, IsRefused}
use Rattle.sweeps.specs.Tallies.{Same, TallyOf}

-- ---- outcomes

abbrev pub is_outcome : Shown → Bool
is_outcome (Ended o) = true
is_outcome HasNoEnd = false
is_outcome IsRefused = false

-- how many of all runs show it, and the seed of the first one
abbrev pub share_line : (all : ℕ) → Same → List ℕ
share_line all s = line (codes "runs " ++ (number s.count ++ (codes " of " ++ (number all ++ (codes ", first seed " ++ number s.first)))))

abbrev pub outcome_part : Shown → (all i : ℕ) → Same → List ℕ
outcome_part (Ended o) all i s = outcome_text i o ++ share_line all s
outcome_part HasNoEnd all i s = []
outcome_part IsRefused all i s = []

abbrev pub next_number : Shown → ℕ → ℕ
next_number (Ended o) i = suc i
next_number HasNoEnd i = i
next_number IsRefused i = i

-- outcomes that are numbered from i, among all that is shown
abbrev pub outcome_texts : (all i : ℕ) → List Same → List ℕ
outcome_texts all i [] = []
outcome_texts all i (s ∷ others) = outcome_part s.shown all i s ++ outcome_texts all (next_number s.shown i) others

abbrev pub outcomes_in : List Same → ℕ
outcomes_in same = count_by (λ s. is_outcome s.shown) same

-- how many outcomes one run alone has shown
abbrev pub once_in : List Same → ℕ
once_in same = count_by (λ s. is_outcome s.shown && (s.count == 1)) same

-- ---- runs without an outcome

abbrev pub cut_line : List ℕ → Same → List ℕ
cut_line word s = line (word ++ (number s.count ++ (codes " runs, first seed " ++ number s.first)))

abbrev pub cut_part : Shown → Same → List ℕ
cut_part (Ended o) s = []
cut_part HasNoEnd s = cut_line (codes "budget ") s
cut_part IsRefused s = cut_line (codes "refused ") s

abbrev pub cut_texts : List Same → List ℕ
cut_texts same = flat_map (λ s. cut_part s.shown s) same

-- ---- all runs

-- from which seed to which
abbrev pub seeds_line : (runs first : ℕ) → List ℕ
seeds_line runs first = line (codes "runs " ++ (number runs ++ (codes ", seeds " ++ (number first ++ (codes ".." ++ number (first + runs - 1))))))

-- how many of further runs by the policy may show an outcome that none has shown, at most: so many more than those that
-- one run has shown
abbrev pub unseen_line : SeededPolicy → (runs once : ℕ) → List ℕ
unseen_line policy runs once =
    line (codes "unseen at most " ++ (number (min (once + 3) runs) ++ (codes " in " ++ (number runs ++ (codes " runs of " ++ name_of policy)))))

-- what is shown, and how many outcomes are among it
abbrev pub shown_text : (all : ℕ) → List Same → List ℕ
shown_text all same = outcome_texts all 1 same ++ (line (codes "outcomes " ++ number (outcomes_in same)) ++ cut_texts same)

-- how many runs and events there were, and what may be unseen
abbrev pub sums_text : SeededPolicy → (first : ℕ) → TallyOf → List ℕ
sums_text policy first t =
    seeds_line t.runs first
    ++ (line (codes "events " ++ number t.events) ++ (line (codes "once " ++ number (once_in t.same)) ++ unseen_line policy t.runs (once_in t.same)))

abbrev pub tally_text : SeededPolicy → (first : ℕ) → TallyOf → List ℕ
tally_text policy first t = shown_text t.runs t.same ++ sums_text policy first t

-- why there are no more runs; with the words behind its seed, the run that shows what is wanted once more
abbrev pub end_text : SweepEnd → (seed : ℕ) → (words : List ℕ) → List ℕ
end_text ends.Done seed words = line (codes "sweep done")
end_text ends.Found seed words = line (codes "sweep found") ++ line (codes "jvm run --seed " ++ (number seed ++ words))
end_text ends.GaveUp seed words = line (codes "sweep gave up: seconds")

abbrev pub sweep_text : SeededPolicy → (first : ℕ) → (words : List ℕ) → TallyOf → SweepEnd → List ℕ
sweep_text policy first words t end = tally_text policy first t ++ end_text end (first + t.runs - 1) words

-- ---- examples

abbrev prints : ℕ → Outcome
prints n = record { printed = number_line (pos n); ends = ended ∷ [] }

abbrev stuck : Outcome
stuck = record { printed = []; ends = blocked ∷ [] }

tells_all : sweep_text seeded.Mixed 1 [] (record {
  same = record { shown = Ended (prints 7); count = 3; first = 1; events = [] } ∷ record { shown = HasNoEnd; count = 2; first = 2; events = [] }
      ∷ record { shown = Ended stuck; count = 1; first = 5; events = [] } ∷ [];
  runs = 6;
  events = 40;
}) ends.Done
    ≡ codes "outcome 1\n7\nthread 0 ended\nruns 3 of 6, first seed 1\noutcome 2\nthread 0 blocked\nruns 1 of 6, first seed 5\noutcomes 2\nbudget 2 runs, first seed 2\nruns 6, seeds 1..6\nevents 40\nonce 1\nunseen at most 4 in 6 runs of mixed\nsweep done\n"
unfolding digits utf16_chars encode_utf8
tells_all = refl

tells_seed : end_text ends.Found 17 (codes " A.class") ≡ codes "sweep found\njvm run --seed 17 A.class\n"
unfolding digits
tells_seed = refl
