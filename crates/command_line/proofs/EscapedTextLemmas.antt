-- Texts of UTF-16 units, read character by character.
use Rattle.std.proofs.Common.{◌≡◌, ℕ, zero, suc, ◌+◌, ◌-◌, ◌<◌, ◌==◌, Bool, true, false, List, [], ◌∷◌, ◌++◌, length, drop, take, get_or, Option, Some, None, refl, ap, sym, append-nil, append_assoc, ◌∙◌, arith}
use Rattle.std.specs.Option.{option_map}
use Rattle.std.specs.Char.Escape.{encode_utf16}
use Rattle.std.proofs.lemmas.Bool.{eqb-true}
use Rattle.std.proofs.lemmas.List.{drop_more, length-drop, take_all}
use Rattle.model.specs.DescriptorScan.{◌>>=◌}
use Rattle.model.specs.Texts.{Text}
use Rattle.command_line.specs.EscapedTexts.{escape_of, units_behind}

-- these units, and those of what comes behind, where there are any
abbrev pub in_front : Text → Option Text → Option Text
in_front units others = option_map (λ l. units ++ l) others

-- nothing is read so far
pub nothing_read : (others : Option Text) → others ≡ in_front [] others
nothing_read None = refl
nothing_read (Some l) = refl

-- nothing is left
pub all_read : (n : ℕ) (units : Text) (all : Option Text) → all ≡ in_front units (units_behind n []) → all ≡ Some units
unfolding units_behind
all_read n units all so_far = so_far ∙ ap Some (append-nil units)

-- all that comes behind a character
pub all_behind : (characters : List ℕ) (at : ℕ) → take (length characters - (at + 1)) (drop (at + 1) characters) ≡ drop (at + 1) characters
all_behind characters at = take_all (length characters - (at + 1)) (drop (at + 1) characters) (omega (arith, length-drop (at + 1) characters))

-- ---- what comes next

more : (units next : Text) (others : Option Text) → in_front units (others >>= λ l. Some (next ++ l)) ≡ in_front (units ++ next) others
more units next None = refl
more units next (Some l) = ap Some (sym (append_assoc units next l))

module _ (c : ℕ) (characters : List ℕ) where
  passed : (n : ℕ) → 0 < n → units_behind n (c ∷ characters) ≡ units_behind (n - 1) characters
  unfolding units_behind
  passed zero some = absurd (omega (arith, some))
  passed (suc n) some = ap (λ k. units_behind k characters) (omega arith)

  plain : (test : Bool) → (c == 0x5c) ≡ test → (c ≡ 0x5c → ⊥) → units_behind 0 (c ∷ characters) ≡ (units_behind 0 characters >>= λ l. Some (encode_utf16 c ++ l))
  unfolding units_behind
  plain true is other = absurd (other (eqb-true c 0x5c is))
  plain false is other = rw is refl

  escaped : (unit count : ℕ) → c ≡ 0x5c → escape_of characters ≡ Some (unit, count)
      → units_behind 0 (c ∷ characters) ≡ (units_behind count characters >>= λ l. Some ((unit ∷ []) ++ l))
  unfolding units_behind
  escaped unit count is escape = rw (is, escape) refl

  nothing : c ≡ 0x5c → escape_of characters ≡ None → units_behind 0 (c ∷ characters) ≡ None
  unfolding units_behind
  nothing is escape = rw (is, escape) refl

module _ (all : Option Text) (characters : List ℕ) (at next : ℕ) (lt : at < length characters) (is : get_or characters at next ≡ next) (units : Text) (n : ℕ)
    (so_far : all ≡ in_front units (units_behind n (drop at characters))) where
  abbrev behind : List ℕ
  behind = drop (at + 1) characters

  here : all ≡ in_front units (units_behind n (next ∷ behind))
  here = so_far ∙ ap (λ l. in_front units (units_behind n l)) (drop_more characters at next lt ∙ ap (λ c. c ∷ behind) is)

  pub passed_over : (new : Text) (left : ℕ) → 0 < n → new ≡ units → left ≡ n - 1 → all ≡ in_front new (units_behind left behind)
  passed_over new left some same less =
      here ∙ ap (in_front units) (passed next behind n some ∙ ap (λ k. units_behind k behind) (sym less))
      ∙ ap (λ l. in_front l (units_behind left behind)) (sym same)

  module _ (now : n ≡ 0) where
    begins : all ≡ in_front units (units_behind 0 (next ∷ behind))
    begins = here ∙ ap (λ k. in_front units (units_behind k (next ∷ behind))) now

    pub character_read : (new : Text) (left : ℕ) → (next ≡ 0x5c → ⊥) → new ≡ units ++ encode_utf16 next → left ≡ n
        → all ≡ in_front new (units_behind left behind)
    character_read new left other added same =
        begins ∙ ap (in_front units) (plain next behind (next == 0x5c) refl other) ∙ more units (encode_utf16 next) (units_behind 0 behind)
        ∙ ap (λ l. in_front l (units_behind 0 behind)) (sym added)
        ∙ ap (λ k. in_front new (units_behind k behind)) (sym (same ∙ now))

    pub escape_read : (new : Text) (unit count : ℕ) → next ≡ 0x5c → Some (unit, count) ≡ escape_of behind → new ≡ units ++ unit ∷ []
        → all ≡ in_front new (units_behind count behind)
    escape_read new unit count slash escape added =
        begins ∙ ap (in_front units) (escaped next behind unit count slash (sym escape)) ∙ more units (unit ∷ []) (units_behind count behind)
        ∙ ap (λ l. in_front l (units_behind count behind)) (sym added)

    pub no_escape_read : next ≡ 0x5c → None ≡ escape_of behind → all ≡ None
    no_escape_read slash none = begins ∙ ap (in_front units) (nothing next behind slash (sym none))
