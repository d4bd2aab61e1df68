-- Numbers that are counted.
use Rattle.std.proofs.Common.{◌≡◌, ℕ, zero, suc, ◌+◌, ◌<◌, ◌≤◌, ℤ, map, Bool, true, false, refl, subst, ◌∙◌, arith}
use Rattle.std.specs.List.{list_any}
use Rattle.std.proofs.lemmas.Bool.{or_right}
use Rattle.model.specs.CodeParts.{count_from}
use Rattle.constant_pool.proofs.Passing.{any_map}

none_counted_from : (p : ℕ → Bool) (n a : ℕ) → ((k : ℕ) → a ≤ k → k < a + n → p k ≡ false) → list_any p (count_from a n) ≡ false
none_counted_from p zero a h = refl
none_counted_from p (suc n) a h =
    let here : p a ≡ false = h a (omega arith) (omega arith) in
    rw here (none_counted_from p n (suc a) (λ k low high. h k (omega (arith, low)) (omega (arith, high))))

pub none_counted : (p : ℕ → Bool) (n : ℕ) → ((k : ℕ) → k < n → p k ≡ false) → list_any p (count_from 0 n) ≡ false
none_counted p n h = none_counted_from p n 0 (λ k low high. h k (omega (arith, high)))

any_counted_from : (p : ℕ → Bool) (n a k place : ℕ) → place ≡ a + k → k < n → p place ≡ true → list_any p (count_from a n) ≡ true
any_counted_from p zero a k place e below h = absurd (omega (arith, below))
any_counted_from p (suc n) a zero place e below h =
    let same : place ≡ a = omega (arith, e) in
    rw (subst (λ (q : ℕ). p q ≡ true) same h) refl
any_counted_from p (suc n) a (suc k) place e below h =
    or_right (p a) (list_any p (count_from (suc a) n)) (any_counted_from p n (suc a) k place (omega (arith, e)) (omega (arith, below)) h)

pub any_counted : (p : ℕ → Bool) (n k : ℕ) → k < n → p k ≡ true → list_any p (count_from 0 n) ≡ true
any_counted p n k below h = any_counted_from p n 0 k k (omega arith) below h

-- the same of what counted numbers are mapped to
pub none_mapped : (p : ℤ → Bool) (f : ℕ → ℤ) (n : ℕ) → ((k : ℕ) → k < n → p (f k) ≡ false) → list_any p (map f (count_from 0 n)) ≡ false
none_mapped p f n h = any_map p f (count_from 0 n) ∙ none_counted (λ k. p (f k)) n h

pub any_mapped : (p : ℤ → Bool) (f : ℕ → ℤ) (n k : ℕ) → k < n → p (f k) ≡ true → list_any p (map f (count_from 0 n)) ≡ true
any_mapped p f n k below h = any_map p f (count_from 0 n) ∙ any_counted (λ j. p (f j)) n k below h
