-- The lines of threads, one thread after the other.
use Rattle.std.proofs.Common.{◌≡◌, ℕ, suc, add-zero, ◌+◌, ◌<◌, List, [], ◌∷◌, ◌++◌, length, map, take, get_or, sym, ap, ◌∙◌, append_assoc, arith}
use Rattle.std.proofs.lemmas.List.{append-nil, take_more, map_push, length-map, length-take}
use Rattle.model.specs.declared.report.EndState.{EndState}
use Rattle.model.specs.Report.{ThreadEnd, end_state_of, thread_line, thread_lines}

push : (i : ℕ) (xs : List ThreadEnd) (x : ThreadEnd) → thread_lines i (xs ++ x ∷ []) ≡ thread_lines i xs ++ thread_line (i + length xs) x
push i [] x = append-nil (thread_line i x) ∙ ap (λ (n : ℕ). thread_line n x) (sym (add-zero i))
push i (y ∷ xs) x =
    let place : suc i + length xs ≡ i + length (y ∷ xs) = omega arith in
    ap (λ (l : List ℕ). thread_line i y ++ l) (push (suc i) xs x ∙ ap (λ (n : ℕ). thread_lines (suc i) xs ++ thread_line n x) place)
    ∙ sym (append_assoc (thread_line i y) (thread_lines (suc i) xs) (thread_line (i + length (y ∷ xs)) x))

-- the lines with one thread more
pub one_more : (states : List EndState) (k : ℕ) (d : EndState) → k < length states
    → thread_lines 0 (map end_state_of (take (k + 1) states))
    ≡ thread_lines 0 (map end_state_of (take k states)) ++ thread_line k (end_state_of (get_or states k d))
one_more states k d lt =
    let place : 0 + length (map end_state_of (take k states)) ≡ k = omega (arith, length-map (take k states) end_state_of, length-take k states) in
    ap (λ (l : List EndState). thread_lines 0 (map end_state_of l)) (take_more states k d lt)
    ∙ ap (λ (l : List ThreadEnd). thread_lines 0 l) (map_push end_state_of (take k states) (get_or states k d))
    ∙ push 0 (map end_state_of (take k states)) (end_state_of (get_or states k d))
    ∙ ap (λ (n : ℕ). thread_lines 0 (map end_state_of (take k states)) ++ thread_line n (end_state_of (get_or states k d))) place
