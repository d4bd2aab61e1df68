-- The text of a file, byte by byte.
use Rattle.std.proofs.Common.{◌≡◌, ◌∙◌, ◌<◌, ◌+◌, ℕ, true, false, List, [], ◌∷◌, ◌++◌, length, drop, get_or, ap, append_assoc, refl, sym}
use Rattle.std.specs.Prelude.{if◌then◌else◌}
use Rattle.std.proofs.lemmas.List.{drop_more}
use Rattle.engines.specs.Goals.{begins_return, without_returns}

-- what is kept of a byte and of those behind it
pub kept_next : (bytes : List ℕ) (i d : ℕ) → i < length bytes
    → without_returns (drop i bytes) ≡ (if begins_return (drop i bytes) then without_returns (drop (i + 1) bytes) else get_or bytes i d ∷ without_returns (drop (i + 1) bytes))
kept_next bytes i d within = rw (drop_more bytes i d within) refl

-- a byte is left out
pub leaves_out : (kept bytes : List ℕ) (i d : ℕ) → i < length bytes → begins_return (drop i bytes) ≡ true
    → kept ++ without_returns (drop i bytes) ≡ without_returns bytes → kept ++ without_returns (drop (i + 1) bytes) ≡ without_returns bytes
leaves_out kept bytes i d within begins so_far =
    let next = kept_next bytes i d within ∙ ap (λ b. if b then without_returns (drop (i + 1) bytes) else get_or bytes i d ∷ without_returns (drop (i + 1) bytes)) begins in
    ap (λ rest. kept ++ rest) (sym next) ∙ so_far

-- a byte is kept
pub keeps_one : (kept bytes : List ℕ) (i d : ℕ) → i < length bytes → begins_return (drop i bytes) ≡ false
    → kept ++ without_returns (drop i bytes) ≡ without_returns bytes
    → (kept ++ get_or bytes i d ∷ []) ++ without_returns (drop (i + 1) bytes) ≡ without_returns bytes
keeps_one kept bytes i d within begins so_far =
    let next = kept_next bytes i d within ∙ ap (λ b. if b then without_returns (drop (i + 1) bytes) else get_or bytes i d ∷ without_returns (drop (i + 1) bytes)) begins in
    append_assoc kept (get_or bytes i d ∷ []) (without_returns (drop (i + 1) bytes)) ∙ ap (λ rest. kept ++ rest) (sym next) ∙ so_far
