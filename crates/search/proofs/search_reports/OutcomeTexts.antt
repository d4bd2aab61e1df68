-- The lines of outcomes, one outcome after the other.
use Rattle.std.proofs.Common.{◌≡◌, ℕ, suc, add-zero, ◌+◌, ◌<◌, List, [], ◌∷◌, ◌++◌, length, map, take, get_or, sym, ap, ◌∙◌, append_assoc, arith}
use Rattle.std.proofs.lemmas.List.{append-nil, take_more, map_push, length-map, length-take}
use Rattle.run_laws.specs.interleavings.Ends.{Outcome}
use Rattle.search.specs.declared.run_outcomes.outcomes.Outcome.{Outcome as TheOutcome}
use Rattle.search.specs.run_outcomes.Outcomes.{told_by}
use Rattle.search.specs.search_reports.Reports.{outcome_text, outcome_texts}

push : (i : ℕ) (xs : List Outcome) (x : Outcome) → outcome_texts i (xs ++ x ∷ []) ≡ outcome_texts i xs ++ outcome_text (i + length xs) x
push i [] x = append-nil (outcome_text i x) ∙ ap (λ (n : ℕ). outcome_text n x) (sym (add-zero i))
push i (y ∷ xs) x =
    let place : suc i + length xs ≡ i + length (y ∷ xs) = omega arith in
    ap (λ (l : List ℕ). outcome_text i y ++ l) (push (suc i) xs x ∙ ap (λ (n : ℕ). outcome_texts (suc i) xs ++ outcome_text n x) place)
    ∙ sym (append_assoc (outcome_text i y) (outcome_texts (suc i) xs) (outcome_text (i + length (y ∷ xs)) x))

-- the lines with one outcome more
pub one_more : (outcomes : List TheOutcome) (k : ℕ) (d : TheOutcome) → k < length outcomes
    → outcome_texts 1 (map told_by (take (k + 1) outcomes))
    ≡ outcome_texts 1 (map told_by (take k outcomes)) ++ outcome_text (k + 1) (told_by (get_or outcomes k d))
one_more outcomes k d lt =
    let place : 1 + length (map told_by (take k outcomes)) ≡ k + 1 = omega (arith, length-map (take k outcomes) told_by, length-take k outcomes) in
    ap (λ (l : List TheOutcome). outcome_texts 1 (map told_by l)) (take_more outcomes k d lt)
    ∙ ap (λ (l : List Outcome). outcome_texts 1 l) (map_push told_by (take k outcomes) (get_or outcomes k d))
    ∙ push 1 (map told_by (take k outcomes)) (told_by (get_or outcomes k d))
    ∙ ap (λ (n : ℕ). outcome_texts 1 (map told_by (take k outcomes)) ++ outcome_text n (told_by (get_or outcomes k d))) place
