-- The words in use, the top first.
use Rattle.std.proofs.Common.{◌≡◌, ℕ, zero, suc, ◌+◌, ◌-◌, ◌≤◌, List, [], ◌∷◌, ◌++◌, length, take, drop, reverse, sym, ap, refl, ◌∙◌, arith, inl, inr}
use Rattle.std.specs.Prelude.{slice_range, replicate}
use Rattle.std.proofs.lemmas.Bool.{cases_lt}
use Rattle.std.proofs.lemmas.List.{drop_at, take-append-drop, length-drop, length-append, length-reverse, length-take-le, reverse-append, reverse-reverse, take-take, take_all, take_at, drop-take}
use Rattle.thread_stacks.specs.Stacks.{in_use}

drop_some : {A : Type 0} (n m : ℕ) (xs : List A) → length (drop m xs) ≡ n → drop n (reverse xs) ≡ reverse (take m xs)
drop_some n m xs e =
    ap (λ ys. drop n (reverse ys)) (sym (take-append-drop m xs)) ∙ ap (drop n) (reverse-append (take m xs) (drop m xs)) ∙ drop_at (reverse (drop m xs)) (reverse (take m xs)) n (length-reverse (drop m xs) ∙ e)

take_some : {A : Type 0} (n m : ℕ) (xs : List A) → length (drop m xs) ≡ n → take n (reverse xs) ≡ reverse (drop m xs)
take_some n m xs e =
    ap (λ ys. take n (reverse ys)) (sym (take-append-drop m xs)) ∙ ap (take n) (reverse-append (take m xs) (drop m xs)) ∙ take_at (reverse (drop m xs)) (reverse (take m xs)) n (length-reverse (drop m xs) ∙ e)

pub take_reverse : {A : Type 0} (n : ℕ) (xs : List A) → take n (reverse xs) ≡ reverse (drop (length xs - n) xs)
take_reverse n xs =
    elim (cases_lt n (length xs)) [
      | inl lt ↦ take_some n (length xs - n) xs (omega (arith, length-drop (length xs - n) xs))
      | inr le ↦
          (let none : length xs - n ≡ 0 = omega arith in
          take_all n (reverse xs) (omega (arith, length-reverse xs)) ∙ sym (ap (λ k. reverse (drop k xs)) none))
    ]

-- how many there are
pub used_count : (used : ℕ) (ws : List ℕ) → used ≤ length ws → length (in_use used ws) ≡ used
used_count used ws le = length-reverse (take used ws) ∙ length-take-le used ws le

-- without the first so many
pub use_pop : (n used : ℕ) (ws : List ℕ) → n ≤ used → used ≤ length ws → drop n (in_use used ws) ≡ in_use (used - n) ws
use_pop n used ws le within =
    let all : length (take used ws) ≡ used = length-take-le used ws within in
    drop_some n (used - n) (take used ws) (omega (arith, length-drop (used - n) (take used ws)))
    ∙ ap reverse (take-take (used - n) used ws (omega arith))

-- the first so many, in the order in which they lie
pub use_top : (n used : ℕ) (ws : List ℕ) → n ≤ used → used ≤ length ws → reverse (take n (in_use used ws)) ≡ slice_range ws (used - n) used
use_top n used ws le within =
    let all : length (take used ws) ≡ used = length-take-le used ws within in
    let sum : used - n + (used - (used - n)) ≡ used = omega arith in
    ap reverse (take_some n (used - n) (take used ws) (omega (arith, length-drop (used - n) (take used ws))))
    ∙ reverse-reverse (drop (used - n) (take used ws))
    ∙ ap (λ m. drop (used - n) (take m ws)) (sym sum)
    ∙ drop-take (used - n) (used - (used - n)) ws

-- one more
pub use_put : (k : ℕ) (ws vs : List ℕ) (x : ℕ) → take (k + 1) vs ≡ take k ws ++ x ∷ [] → in_use (k + 1) vs ≡ x ∷ in_use k ws
use_put k ws vs x is = ap reverse is ∙ reverse-append (take k ws) (x ∷ [])

-- others behind them
pub use_grown : (used : ℕ) (ws vs : List ℕ) → used ≤ length ws → take (length ws) vs ≡ ws → in_use used vs ≡ in_use used ws
use_grown used ws vs le is = ap reverse (sym (take-take used (length ws) vs le) ∙ ap (take used) is)

-- words in the place of those from a place up to another
pub use_more : (from to : ℕ) (ws gap : List ℕ) → length gap ≡ to - from → from ≤ to → to ≤ length ws
    → in_use to (take from ws ++ gap ++ drop to ws) ≡ reverse gap ++ in_use from ws
use_more from to ws gap count order within =
    let front : length (take from ws) ≡ from = length-take-le from ws (omega arith) in
    let whole : length (take from ws ++ gap) ≡ to = length-append (take from ws) gap ∙ omega arith in
    ap reverse (take_at (take from ws ++ gap) (drop to ws) to whole) ∙ reverse-append (take from ws) gap

behind : (n x : ℕ) → replicate n x ++ x ∷ [] ≡ x ∷ replicate n x
behind zero x = refl
behind (suc n) x = ap (λ xs. x ∷ xs) (behind n x)

-- one word many times in either order
pub same_turned : (n x : ℕ) → reverse (replicate n x) ≡ replicate n x
same_turned zero x = refl
same_turned (suc n) x = reverse-append (x ∷ []) (replicate n x) ∙ ap (λ xs. xs ++ x ∷ []) (same_turned n x) ∙ behind n x
