-- Texts in modified UTF-8, one code unit after the other.
use Rattle.std.proofs.Common.{◌≡◌, ◌<◌, ◌≤◌, ◌+◌, ℕ, zero, suc, Bool, true, false, ◌&&◌, List, [], ◌∷◌, ◌++◌, length, drop, get_or, refl, ap, sym, ◌∙◌, append_assoc, drop-cons, arith}
use Rattle.std.proofs.lemmas.List.{append-nil, drop_all, get_or-drop}
use Rattle.model.specs.Texts.{are_two, are_three, decoded, is_continuation, is_within, unit_of_one, unit_of_two, unit_of_three}

-- ---- the unit with which a text begins

begins_two : (b c : ℕ) (rest : List ℕ) → are_two b c ≡ true → decoded (b ∷ c ∷ rest) ≡ unit_of_two b c ∷ decoded rest
unfolding decoded
begins_two b c [] two = rw two refl
begins_two b c (d ∷ rest) two = rw two refl

begins_three : (b c d : ℕ) (rest : List ℕ) → are_two b c ≡ false → are_three b c d ≡ true
    → decoded (b ∷ c ∷ d ∷ rest) ≡ unit_of_three b c d ∷ decoded rest
unfolding decoded
begins_three b c d rest two three = rw (two, three) refl

begins_one : (b : ℕ) (rest : List ℕ) → are_two b (get_or rest 0 0) ≡ false → are_three b (get_or rest 0 0) (get_or rest 1 0) ≡ false
    → decoded (b ∷ rest) ≡ unit_of_one b ∷ decoded rest
unfolding decoded
begins_one b [] two three = refl
begins_one b (c ∷ []) two three = rw two refl
begins_one b (c ∷ d ∷ rest) two three = rw (two, three) refl

-- ---- what is behind the end is no byte of a unit

second_holds : (p q : Bool) → (p && q) ≡ true → q ≡ true
second_holds true q h = h
second_holds false q h = absurd cc

inside : (bytes : List ℕ) (n : ℕ) → is_continuation (get_or bytes n 0) ≡ true → n < length bytes
inside [] n h = absurd cc
inside (b ∷ bytes) zero h = omega arith
inside (b ∷ bytes) (suc n) h = let rest = inside bytes n h in omega (arith, rest)

-- ---- the unit at a place

module _ (bytes : List ℕ) (at : ℕ) (within : at < length bytes) (b : ℕ) (first : b ≡ get_or bytes at 0) where
  byte_on : (n : ℕ) → n < length bytes → drop n bytes ≡ get_or bytes n 0 ∷ drop (n + 1) bytes
  byte_on n more = let next : suc n ≡ n + 1 = omega arith in drop-cons bytes n 0 more ∙ ap (λ k. get_or bytes n 0 ∷ drop k bytes) next

  from_here : drop at bytes ≡ b ∷ drop (at + 1) bytes
  from_here = byte_on at within ∙ ap (λ k. k ∷ drop (at + 1) bytes) (sym first)

  module _ (c : ℕ) (second : c ≡ get_or bytes (at + 1) 0) where
    two_within : are_two b c ≡ true → at + 1 < length bytes
    two_within two = inside bytes (at + 1) (ap is_continuation (sym second) ∙ second_holds (is_within 0xc0 0xdf b) (is_continuation c) two)

    from_two : at + 1 < length bytes → drop at bytes ≡ b ∷ c ∷ drop (at + 2) bytes
    from_two more =
        let next : at + 1 + 1 ≡ at + 2 = omega arith in
        from_here ∙ ap (λ l. b ∷ l) (byte_on (at + 1) more ∙ ap (λ k. k ∷ drop (at + 1 + 1) bytes) (sym second) ∙ ap (λ k. c ∷ drop k bytes) next)

    pub two_inside : are_two b c ≡ true → at + 2 ≤ length bytes
    two_inside two = let more = two_within two in omega (arith, more)

    pub two_at : (value : ℕ) → value ≡ unit_of_two b c → are_two b c ≡ true → decoded (drop at bytes) ≡ value ∷ decoded (drop (at + 2) bytes)
    two_at value is two =
        ap decoded (from_two (two_within two)) ∙ begins_two b c (drop (at + 2) bytes) two ∙ ap (λ v. v ∷ decoded (drop (at + 2) bytes)) (sym is)

    module _ (d : ℕ) (third : d ≡ get_or bytes (at + 2) 0) where
      three_within : are_three b c d ≡ true → at + 2 < length bytes
      three_within three =
          let behind = second_holds (is_within 0xe0 0xef b) (is_continuation c && is_continuation d) three in
          inside bytes (at + 2) (ap is_continuation (sym third) ∙ second_holds (is_continuation c) (is_continuation d) behind)

      from_three : at + 2 < length bytes → drop at bytes ≡ b ∷ c ∷ d ∷ drop (at + 3) bytes
      from_three more =
          let next : at + 2 + 1 ≡ at + 3 = omega arith in
          from_two (omega (arith, more)) ∙ ap (λ l. b ∷ c ∷ l) (byte_on (at + 2) more ∙ ap (λ k. k ∷ drop (at + 2 + 1) bytes) (sym third) ∙ ap (λ k. d ∷ drop k bytes) next)

      pub three_inside : are_three b c d ≡ true → at + 3 ≤ length bytes
      three_inside three = let more = three_within three in omega (arith, more)

      pub three_at : (value : ℕ) → value ≡ unit_of_three b c d → are_two b c ≡ false → are_three b c d ≡ true
          → decoded (drop at bytes) ≡ value ∷ decoded (drop (at + 3) bytes)
      three_at value is two three =
          ap decoded (from_three (three_within three)) ∙ begins_three b c d (drop (at + 3) bytes) two three ∙ ap (λ v. v ∷ decoded (drop (at + 3) bytes)) (sym is)

      pub one_at : (value : ℕ) → value ≡ unit_of_one b → are_two b c ≡ false → are_three b c d ≡ false
          → decoded (drop at bytes) ≡ value ∷ decoded (drop (at + 1) bytes)
      one_at value is two three =
          let rest = drop (at + 1) bytes in
          let next : get_or rest 0 0 ≡ c = get_or-drop (at + 1) bytes 0 0 ∙ ap (λ k. get_or bytes k 0) (omega arith) ∙ sym second in
          let last : get_or rest 1 0 ≡ d = get_or-drop (at + 1) bytes 1 0 ∙ ap (λ k. get_or bytes k 0) (omega arith) ∙ sym third in
          ap decoded from_here
          ∙ begins_one b rest (ap (are_two b) next ∙ two) (ap (λ k. are_three b k (get_or rest 1 0)) next ∙ ap (are_three b c) last ∙ three)
          ∙ ap (λ v. v ∷ decoded rest) (sym is)

-- ---- one unit after the other

-- the unit at a place is put down, and what is behind it is left
pub one_unit : (bytes : List ℕ) (at next unit : ℕ) (all text more : List ℕ) → decoded (drop at bytes) ≡ unit ∷ decoded (drop next bytes)
    → text ++ decoded (drop at bytes) ≡ all → more ≡ text ++ unit ∷ [] → more ++ decoded (drop next bytes) ≡ all
one_unit bytes at next unit all text more spelled before pushed =
    ap (λ (l : List ℕ). l ++ decoded (drop next bytes)) pushed
    ∙ append_assoc text (unit ∷ []) (decoded (drop next bytes))
    ∙ ap (λ (l : List ℕ). text ++ l) (sym spelled)
    ∙ before

pub none_left : (bytes : List ℕ) (at : ℕ) (text all : List ℕ) → length bytes ≤ at → text ++ decoded (drop at bytes) ≡ all → text ≡ all
unfolding decoded
none_left bytes at text all end before =
    sym (append-nil text) ∙ ap (λ (l : List ℕ). text ++ decoded l) (sym (drop_all at bytes end)) ∙ before
