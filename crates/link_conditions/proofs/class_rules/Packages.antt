-- The package in a name, by where its last slash stands.
use Rattle.std.proofs.Common.{◌≡◌, ℕ, ◌+◌, ◌<◌, Bool, true, false, cond, [], ◌∷◌, ◌++◌, length, take, drop, get_or, refl, sym, ap, ◌∙◌, append_assoc, add-one, drop-cons}
use Rattle.std.proofs.lemmas.Bool.{eq-eqb, ne_eqb}
use Rattle.std.specs.Prelude.{◌==◌, if◌then◌else◌}
use Rattle.std.specs.List.{list_any}
use Rattle.std.proofs.lemmas.List.{append-nil, take_more}
use Rattle.model.specs.Names.{Name}
use Rattle.model.specs.Classes.{package_of}

abbrev pub is_slash : ℕ → Bool
is_slash b = b == 47

-- the package of a name of which some bytes were seen: up to the last slash behind them, or else up to where the last one
-- among them ends
abbrev pub package_from : Name → ℕ → ℕ → Name
package_from name seen end = if list_any is_slash (drop seen name) then take seen name ++ package_of (drop seen name) else take end name

no_slash : (name : Name) → list_any is_slash name ≡ false → package_of name ≡ []
no_slash [] h = refl
no_slash (b ∷ name) h = ap (λ c. cond c (b ∷ package_of name) []) h

pub none_seen : (name : Name) → package_from name 0 0 ≡ package_of name
none_seen name = by (list_any is_slash name) refl
  where
    by : (c : Bool) → list_any is_slash name ≡ c → cond c ([] ++ package_of name) [] ≡ package_of name
    by true h = refl
    by false h = sym (no_slash name h)

-- behind one byte more
module _ (name : Name) (i : ℕ) (lt : i < length name) where
  abbrev byte : ℕ
  byte = get_or name i 0

  abbrev rest : Name
  rest = drop (i + 1) name

  at : drop i name ≡ byte ∷ rest
  at = drop-cons name i 0 lt ∙ ap (λ k. byte ∷ drop k name) (sym (add-one i))

  longer : take i name ++ byte ∷ package_of rest ≡ take (i + 1) name ++ package_of rest
  longer = sym (append_assoc (take i name) (byte ∷ []) (package_of rest)) ∙ ap (λ (l : Name). l ++ package_of rest) (sym (take_more name i 0 lt))

  pub after_slash : (end : ℕ) → byte ≡ 47 → package_from name (i + 1) (i + 1) ≡ package_from name i end
  after_slash end h = by (list_any is_slash rest) refl ∙ sym longer ∙ sym here
    where
      here : package_from name i end ≡ take i name ++ byte ∷ package_of rest
      here = rw (at, eq-eqb byte 47 h) refl

      by : (c : Bool) → list_any is_slash rest ≡ c → package_from name (i + 1) (i + 1) ≡ take (i + 1) name ++ package_of rest
      by true e = rw e refl
      by false e = rw (e, no_slash rest e) (sym (append-nil (take (i + 1) name)))

  pub after_other : (end : ℕ) → (byte ≡ 47 → ⊥) → package_from name (i + 1) end ≡ package_from name i end
  after_other end h = by (list_any is_slash rest) refl
    where
      by : (c : Bool) → list_any is_slash rest ≡ c → package_from name (i + 1) end ≡ package_from name i end
      by true e = rw (at, ne_eqb byte 47 h, e) (sym longer)
      by false e = rw (at, ne_eqb byte 47 h, e) refl
