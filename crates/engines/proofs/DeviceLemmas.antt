-- Writes one after another.
use Rattle.std.proofs.Common.{arith, length, ◌-◌, ◌≡◌, ℕ, List, ◌++◌, take, drop, Option, None, Some, sym, ◌∙◌, ap, append_assoc}
use Rattle.std.proofs.lemmas.List.{append-nil, take-append-drop, take_all, length-drop}
use Rattle.std.specs.Io.KnownBytes.{Appends, Keeps}

-- one write, and then another
pub appends_on : (old mid new : Option (List ℕ)) (xs ys : List ℕ) → Appends old mid xs → Appends mid new ys → Appends old new (xs ++ ys)
appends_on None mid new xs ys first second = tt
appends_on (Some held) None new xs ys first second = absurd first
appends_on (Some held) (Some more) None xs ys first second = absurd second
appends_on (Some held) (Some more) (Some all) xs ys first second = second ∙ ap (λ l. l ++ ys) first ∙ append_assoc held xs ys

-- one write, and then none
pub appends_keeps : (old mid new : Option (List ℕ)) (xs : List ℕ) → Appends old mid xs → Keeps mid new → Appends old new xs
appends_keeps None mid new xs first second = tt
appends_keeps (Some held) None new xs first second = absurd first
appends_keeps (Some held) (Some more) None xs first second = absurd second
appends_keeps (Some held) (Some more) (Some all) xs first second = second ∙ first

-- a front of the bytes, and then n more of them
pub front_on : (old mid new : Option (List ℕ)) (bytes front rest : List ℕ) (n : ℕ) → bytes ≡ front ++ rest → Appends old mid front
    → Appends mid new (take n rest) → (bytes ≡ (front ++ take n rest) ++ drop n rest) × Appends old new (front ++ take n rest)
front_on old mid new bytes front rest n cut first second = (
  cut ∙ ap (λ l. front ++ l) (sym (take-append-drop n rest)) ∙ sym (append_assoc front (take n rest) (drop n rest)),
  appends_on old mid new front (take n rest) first second,
)

-- `&rest[n..]`, which is cut at the length too
pub tail_cut : (n : ℕ) (rest : List ℕ) → take (length rest - n) (drop n rest) ≡ drop n rest
tail_cut n rest = take_all (length rest - n) (drop n rest) (omega (arith, length-drop n rest))

-- nothing is written, and then nothing again
pub keeps_on : (old mid new : Option (List ℕ)) → Keeps old mid → Keeps mid new → Keeps old new
keeps_on None mid new first second = tt
keeps_on (Some held) None new first second = absurd first
keeps_on (Some held) (Some more) None first second = absurd second
keeps_on (Some held) (Some more) (Some all) first second = second ∙ first

-- nothing is written, and then something
pub keeps_appends : (old mid new : Option (List ℕ)) (xs : List ℕ) → Keeps old mid → Appends mid new xs → Appends old new xs
keeps_appends None mid new xs first second = tt
keeps_appends (Some held) None new xs first second = absurd first
keeps_appends (Some held) (Some more) None xs first second = absurd second
keeps_appends (Some held) (Some more) (Some all) xs first second = second ∙ ap (λ l. l ++ xs) first

-- no byte is written
pub appends_none : (old new : Option (List ℕ)) (n : ℕ) (bytes : List ℕ) → n ≡ 0 → Appends old new (take n bytes) → Keeps old new
appends_none None new n bytes none written = tt
appends_none (Some held) None n bytes none written = absurd written
appends_none (Some held) (Some all) n bytes none written = written ∙ ap (λ i. held ++ take i bytes) none ∙ append-nil held
