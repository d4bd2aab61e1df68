-- Indices from one on.
use Rattle.std.proofs.Common.{arith, ◌≡◌, ◌<◌, ◌≤◌, ◌+◌, ◌-◌, refl, sym, ap, ◌∙◌, ℕ, zero, suc, List, [], ◌∷◌, ◌++◌, map}
use Rattle.std.proofs.lemmas.List.{append-nil, append_assoc, map-append}
use Rattle.model.specs.Rows.{counting}

-- one more
counting_more : (first count : ℕ) → counting first (suc count) ≡ counting first count ++ (first + count) ∷ []
counting_more first zero = let e : first ≡ first + 0 = omega arith in ap (λ n. n ∷ []) e
counting_more first (suc count) =
    let e : suc first + count ≡ first + suc count = omega arith in
    ap (λ l. first ∷ l) (counting_more (suc first) count ∙ ap (λ n. counting (suc first) count ++ n ∷ []) e)

module _ {A : Type 0} (f : ℕ → A) (old : List A) (first : ℕ) where
  -- none so far
  pub none_counted : old ≡ old ++ map f (counting first (first - first))
  none_counted =
      let none : first - first ≡ 0 = omega arith in
      sym (ap (λ n. old ++ map f (counting first n)) none ∙ append-nil old)

  -- one more is added
  pub one_counted : (at : ℕ) → first ≤ at → (now new : List A) → now ≡ old ++ map f (counting first (at - first)) → new ≡ now ++ (f at) ∷ []
      → new ≡ old ++ map f (counting first (at + 1 - first))
  one_counted at within now new e g =
      let more : at + 1 - first ≡ suc (at - first) = omega (arith, within) in
      let same : first + (at - first) ≡ at = omega (arith, within) in
      g
      ∙ (ap (λ l. l ++ (f at) ∷ []) e
      ∙ (append_assoc old (map f (counting first (at - first))) ((f at) ∷ [])
      ∙ ap (λ l. old ++ l)
      (ap (λ n. map f (counting first (at - first)) ++ (f n) ∷ []) (sym same)
      ∙ (sym (map-append f (counting first (at - first)) ((first + (at - first)) ∷ []))
      ∙ ap (map f) (sym (ap (counting first) more ∙ counting_more first (at - first)))))))
