-- Bytes that are written one part after the other.
use Rattle.std.proofs.Common.{◌≡◌, ℕ, List, ◌++◌, ap, ◌∙◌, append_assoc}

pub two_parts : (old a b x y : List ℕ) → x ≡ old ++ a → y ≡ x ++ b → y ≡ old ++ (a ++ b)
two_parts old a b x y first second = second ∙ ap (λ (l : List ℕ). l ++ b) first ∙ append_assoc old a b

pub three_parts : (old a b c x y z : List ℕ) → x ≡ old ++ a → y ≡ x ++ b → z ≡ y ++ c → z ≡ old ++ (a ++ (b ++ c))
three_parts old a b c x y z first second third = third ∙ ap (λ (l : List ℕ). l ++ c) (two_parts old a b x y first second) ∙ append_assoc old (a ++ b) c ∙ ap (λ (l : List ℕ). old ++ l) (append_assoc a b c)

pub four_parts : (old a b c d w x y z : List ℕ) → w ≡ old ++ a → x ≡ w ++ b → y ≡ x ++ c → z ≡ y ++ d → z ≡ old ++ (a ++ (b ++ (c ++ d)))
four_parts old a b c d w x y z first second third fourth =
    fourth ∙ ap (λ (l : List ℕ). l ++ d) (three_parts old a b c w x y first second third) ∙ append_assoc old (a ++ (b ++ c)) d
    ∙ ap (λ (l : List ℕ). old ++ l) (append_assoc a (b ++ c) d ∙ ap (λ (l : List ℕ). a ++ l) (append_assoc b c d))
