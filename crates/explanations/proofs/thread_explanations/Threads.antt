-- What is told of threads, one thread after the other.
use Rattle.std.proofs.Common.{◌≡◌, ℕ, suc, add-zero, ◌+◌, ◌<◌, List, [], ◌∷◌, ◌++◌, length, map, take, get_or, sym, ap, ◌∙◌, append_assoc, arith}
use Rattle.std.proofs.lemmas.List.{append-nil, take_more, map_push, length-map, length-take}
use Rattle.model.specs.declared.report.EndState.{EndState}
use Rattle.model.specs.Report.{ThreadEnd, end_state_of}
use Rattle.explanations.specs.thread_explanations.Explained.{told_of, told_of_all}

module _ (below : ℕ → List (List ℕ)) where
  push : (t : ℕ) (ends : List ThreadEnd) (end : ThreadEnd)
      → told_of_all t (ends ++ end ∷ []) below ≡ told_of_all t ends below ++ told_of (t + length ends) end (below (t + length ends))
  push t [] end = append-nil (told_of t end (below t)) ∙ ap (λ (n : ℕ). told_of n end (below n)) (sym (add-zero t))
  push t (first ∷ ends) end =
      let place : suc t + length ends ≡ t + length (first ∷ ends) = omega arith in
      let n = t + length (first ∷ ends) in
      ap (λ (l : List ℕ). told_of t first (below t) ++ l) (push (suc t) ends end ∙ ap (λ (n : ℕ). told_of_all (suc t) ends below ++ told_of n end (below n)) place)
      ∙ sym (append_assoc (told_of t first (below t)) (told_of_all (suc t) ends below) (told_of n end (below n)))

  -- with one thread more
  pub one_more : (states : List EndState) (k : ℕ) (d : EndState) → k < length states
      → told_of_all 0 (map end_state_of (take (k + 1) states)) below
      ≡ told_of_all 0 (map end_state_of (take k states)) below ++ told_of k (end_state_of (get_or states k d)) (below k)
  one_more states k d lt =
      let place : 0 + length (map end_state_of (take k states)) ≡ k = omega (arith, length-map (take k states) end_state_of, length-take k states) in
      ap (λ (l : List EndState). told_of_all 0 (map end_state_of l) below) (take_more states k d lt)
      ∙ ap (λ (l : List ThreadEnd). told_of_all 0 l below) (map_push end_state_of (take k states) (get_or states k d))
      ∙ push 0 (map end_state_of (take k states)) (end_state_of (get_or states k d))
      ∙ ap (λ (n : ℕ). told_of_all 0 (map end_state_of (take k states)) below ++ told_of n (end_state_of (get_or states k d)) (below n)) place
