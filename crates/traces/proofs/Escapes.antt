-- A text of JSON, one code unit after the other.
use Rattle.std.proofs.Common.{◌≡◌, ◌≤◌, ℕ, List, ◌∷◌, ◌++◌, length, drop, ap, sym, ◌∙◌, append_assoc}
use Rattle.std.proofs.lemmas.List.{append-nil, drop_all}
use Rattle.std.specs.List.{flat_map}
use Rattle.model.specs.Texts.{decoded}
use Rattle.traces.specs.JsonTexts.{escape, escaped}

-- the unit at a place is written, and what is behind it is left
pub one_unit : (bytes : List ℕ) (at next unit : ℕ) (all written more : List ℕ) → decoded (drop at bytes) ≡ unit ∷ decoded (drop next bytes)
    → written ++ escaped (drop at bytes) ≡ all → more ≡ written ++ escape unit
    → more ++ escaped (drop next bytes) ≡ all
unfolding escaped
one_unit bytes at next unit all written more spelled before pushed =
    ap (λ (l : List ℕ). l ++ flat_map escape (decoded (drop next bytes))) pushed
    ∙ append_assoc written (escape unit) (flat_map escape (decoded (drop next bytes)))
    ∙ ap (λ (l : List ℕ). written ++ flat_map escape l) (sym spelled)
    ∙ before

pub none_left : (bytes : List ℕ) (at : ℕ) (written all : List ℕ) → length bytes ≤ at → written ++ escaped (drop at bytes) ≡ all
    → written ≡ all
unfolding escaped decoded
none_left bytes at written all end before =
    sym (append-nil written) ∙ ap (λ (l : List ℕ). written ++ escaped l) (sym (drop_all at bytes end)) ∙ before
