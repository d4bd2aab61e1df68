-- What is appended in parts.
use Rattle.std.proofs.Common.{◌≡◌, ◌++◌, ℕ, List, append_assoc}

-- three parts, one after the other
pub three : (o o1 o2 o3 a b c : List ℕ) → o1 ≡ o ++ a → o2 ≡ o1 ++ b → o3 ≡ o2 ++ c → o3 ≡ o ++ (a ++ (b ++ c))
three o o1 o2 o3 a b c h1 h2 h3 = rw (h3, h2, h1) (simp append_assoc)

-- five parts
pub five : (o o1 o2 o3 o4 o5 a b c d e : List ℕ) → o1 ≡ o ++ a → o2 ≡ o1 ++ b → o3 ≡ o2 ++ c → o4 ≡ o3 ++ d → o5 ≡ o4 ++ e
    → o5 ≡ o ++ (a ++ (b ++ (c ++ (d ++ e))))
five o o1 o2 o3 o4 o5 a b c d e h1 h2 h3 h4 h5 = rw (h5, h4, h3, h2, h1) (simp append_assoc)
