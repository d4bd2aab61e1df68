-- Texts that are added one after another.
use Rattle.std.proofs.Common.{◌≡◌, ℕ, List, ◌++◌, refl, ap, append_assoc, ◌∙◌}

thrice : (old a b c one two new : List ℕ) → one ≡ old ++ a → two ≡ one ++ b → new ≡ two ++ c → new ≡ old ++ (a ++ (b ++ c))
thrice old a b c one two new first second third =
    third
    ∙ (ap (λ (l : List ℕ). l ++ c) second
    ∙ (ap (λ (l : List ℕ). (l ++ b) ++ c) first ∙ (append_assoc (old ++ a) b c ∙ append_assoc old a (b ++ c))))

pub four_times : (old a b c d one two three new : List ℕ) → one ≡ old ++ a → two ≡ one ++ b → three ≡ two ++ c → new ≡ three ++ d
    → new ≡ old ++ (a ++ (b ++ (c ++ d)))
four_times old a b c d one two three new first second third fourth =
    fourth
    ∙ (ap (λ (l : List ℕ). l ++ d) third
    ∙ (append_assoc two c d ∙ thrice old a b (c ++ d) one two (two ++ (c ++ d)) first second refl))
