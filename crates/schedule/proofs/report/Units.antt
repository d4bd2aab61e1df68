-- Units, one after the other, in UTF-8.
use Rattle.std.proofs.Common.{◌≡◌, ℕ, suc, ◌+◌, ◌-◌, ◌<◌, ◌≤◌, ◌^◌, List, [], ◌∷◌, ◌++◌, Option, Some, None, Bool, true, false, ⊎_elim, length, get_or, drop, refl, sym, ap, ◌∙◌, append-nil, append_assoc, arith}
use Rattle.std.specs.Prelude.{◌==◌, ◌&&◌, if◌then◌else◌, nat_le, nat_lt, MatchOption, SomeIff, Result, Ok, Err, IfOk}
use Rattle.std.specs.Char.{IsScalar, InScalarRange, OutOfScalarRange}
use Rattle.std.specs.Char.Utf16.{lone_unit_char, surrogate_pair_char}
use Rattle.std.specs.List.{flat_map}
use Rattle.std.proofs.Math.Seq.{drop-cons}
use Rattle.std.proofs.Math.ListN.{drop_of_length-le}
use Rattle.std.proofs.lemmas.Bool.{lt-ltb, le-ltb, lt-leb, le-leb}
use Rattle.std.proofs.lemmas.Str.{utf16_chars-nil, utf16_chars_lone, utf16_chars_pair}
use Rattle.model.specs.Texts.{Text, character_bytes, encoded, ends_line}
use Rattle.schedule.specs.report.Units.{IsHigh, IsLow, units_of}

-- ---- characters of units

by_tests : (unit : ℕ) (from below : Bool) → nat_le 0xD800 unit ≡ from → nat_lt unit 0xE000 ≡ below → lone_unit_char unit ≡ (if from && below then None else Some unit)
by_tests unit from below e f = ap (λ (b : Bool). if b && nat_lt unit 0xE000 then None else Some unit) e ∙ ap (λ (b : Bool). if from && b then None else Some unit) f

pub lone_is : (unit : ℕ) (result : Option ℕ) → unit < 2 ^ 16 → SomeIff result (IsScalar unit) unit
    → MatchOption result (OutOfScalarRange unit) (λ c. InScalarRange unit) → result ≡ lone_unit_char unit
lone_is unit None fits value out =
    ⊎_elim (λ h. sym (by_tests unit true true (le-leb 0xD800 unit h.0) (lt-ltb unit 0xE000 (omega (arith, h.1))))) (λ h. absurd (omega (arith, h, fits))) out
lone_is unit (Some c) fits value in_range =
    ⊎_elim (λ h. ap (λ (x : ℕ). Some x) value.1 ∙ sym (by_tests unit false (nat_lt unit 0xE000) (lt-leb 0xD800 unit h) refl))
    (λ h. ap (λ (x : ℕ). Some x) value.1 ∙ sym (by_tests unit true false (le-leb 0xD800 unit (omega (arith, h.0))) (le-ltb unit 0xE000 h.0))) in_range

pub pair_is : (high low : ℕ) (result : Option ℕ) → IsHigh high → IsLow low
    → SomeIff result (IsScalar (surrogate_pair_char high low)) (surrogate_pair_char high low)
    → MatchOption result (OutOfScalarRange (surrogate_pair_char high low)) (λ c. InScalarRange (surrogate_pair_char high low))
    → result ≡ Some (surrogate_pair_char high low)
pair_is high low None h l value out = ⊎_elim (λ k. absurd (omega (arith, k.1, h.0, l.0))) (λ k. absurd (omega (arith, k, h.0, h.1, l.0, l.1))) out
pair_is high low (Some c) h l value in_range = ap (λ (x : ℕ). Some x) value.1

-- ---- their bytes

-- a unit before others that is in no pair with the next one
pub first_alone : (unit : ℕ) (rest : Text) → (IsHigh unit → IsLow (get_or rest 0 0) → ⊥)
    → encoded (unit ∷ rest) ≡ character_bytes (lone_unit_char unit) ++ encoded rest
first_alone unit rest apart = ap (λ cs. flat_map character_bytes cs) (utf16_chars_lone unit rest (λ p. apart (p.0, p.1) (p.2, p.3)))

pub first_pair : (high low : ℕ) (rest : Text) → IsHigh high → IsLow low
    → encoded (high ∷ low ∷ rest) ≡ character_bytes (Some (surrogate_pair_char high low)) ++ encoded rest
first_pair high low rest h l = ap (λ cs. flat_map character_bytes cs) (utf16_chars_pair high low rest (h.0, h.1, l.0, l.1))

pub nothing : encoded [] ≡ []
nothing = ap (λ cs. flat_map character_bytes cs) utf16_chars-nil

-- a unit that waits for nothing, and is none that waits
pub alone_written : (unit : ℕ) (old new : List ℕ) → (IsHigh unit → ⊥) → new ≡ old ++ character_bytes (lone_unit_char unit)
    → (rest : Text) → new ++ encoded rest ≡ old ++ encoded (unit ∷ rest)
alone_written unit old new low is rest =
    ap (λ (l : List ℕ). l ++ encoded rest) is ∙ append_assoc old (character_bytes (lone_unit_char unit)) (encoded rest)
    ∙ ap (λ (l : List ℕ). old ++ l) (sym (first_alone unit rest (λ h k. low h)))

-- one that waited in vain, and what becomes of the next one
pub behind_written : (high unit : ℕ) (old mid new : List ℕ) (next : Option ℕ) → (IsLow unit → ⊥) → mid ≡ old ++ character_bytes (lone_unit_char high)
    → ((rest : Text) → new ++ encoded (units_of next ++ rest) ≡ mid ++ encoded (unit ∷ rest))
    → (rest : Text) → new ++ encoded (units_of next ++ rest) ≡ old ++ encoded (high ∷ unit ∷ rest)
behind_written high unit old mid new next apart is written rest =
    written rest ∙ ap (λ (l : List ℕ). l ++ encoded (unit ∷ rest)) is ∙ append_assoc old (character_bytes (lone_unit_char high)) (encoded (unit ∷ rest))
    ∙ ap (λ (l : List ℕ). old ++ l) (sym (first_alone high (unit ∷ rest) (λ h k. apart k)))

pub behind_all : {E : Type 0} (high unit : ℕ) (old mid new : List ℕ) (result : Result (Option ℕ) E) → (IsLow unit → ⊥) → mid ≡ old ++ character_bytes (lone_unit_char high)
    → IfOk result (λ next. (rest : Text) → new ++ encoded (units_of next ++ rest) ≡ mid ++ encoded (unit ∷ rest))
    → IfOk result (λ next. (rest : Text) → new ++ encoded (units_of next ++ rest) ≡ old ++ encoded (high ∷ unit ∷ rest))
behind_all high unit old mid new (Ok next) apart is written = behind_written high unit old mid new next apart is written
behind_all high unit old mid new (Err e) apart is written = tt

pub pair_written : (high low : ℕ) (old new : List ℕ) → IsHigh high → IsLow low → new ≡ old ++ character_bytes (Some (surrogate_pair_char high low))
    → (rest : Text) → new ++ encoded rest ≡ old ++ encoded (high ∷ low ∷ rest)
pair_written high low old new h l is rest =
    ap (λ (l : List ℕ). l ++ encoded rest) is ∙ append_assoc old (character_bytes (Some (surrogate_pair_char high low))) (encoded rest)
    ∙ ap (λ (l : List ℕ). old ++ l) (sym (first_pair high low rest h l))

-- ---- all units

-- one more is written
pub one_written : (units : Text) (k unit : ℕ) (first next : Option ℕ) (old text new : List ℕ) → k < length units → unit ≡ get_or units k unit
    → text ++ encoded (units_of first ++ drop k units) ≡ old ++ encoded units
    → ((rest : Text) → new ++ encoded (units_of next ++ rest) ≡ text ++ encoded (units_of first ++ unit ∷ rest))
    → new ++ encoded (units_of next ++ drop (k + 1) units) ≡ old ++ encoded units
one_written units k unit first next old text new here is before written =
    let place : suc k ≡ k + 1 = omega arith in
    let rest : drop k units ≡ unit ∷ drop (k + 1) units =
    drop-cons units k unit here ∙ ap (λ (u : ℕ). u ∷ drop (suc k) units) (sym is) ∙ ap (λ (n : ℕ). unit ∷ drop n units) place in
    written (drop (k + 1) units) ∙ ap (λ (l : Text). text ++ encoded (units_of first ++ l)) (sym rest) ∙ before

-- nothing waits behind all
pub all_written : (units : Text) (k : ℕ) (old text : List ℕ) → length units ≤ k → text ++ encoded (drop k units) ≡ old ++ encoded units
    → text ≡ old ++ encoded units
all_written units k old text all before =
    sym (append-nil text) ∙ ap (λ (l : List ℕ). text ++ l) (sym nothing)
    ∙ ap (λ (l : Text). text ++ encoded l) (sym (drop_of_length-le units all)) ∙ before

-- the first unit of a pair waits behind all
pub last_written : (units : Text) (k high : ℕ) (old text new : List ℕ) → length units ≤ k → text ++ encoded (high ∷ drop k units) ≡ old ++ encoded units
    → new ≡ text ++ character_bytes (lone_unit_char high) → new ≡ old ++ encoded units
last_written units k high old text new all before is =
    let alone : encoded (high ∷ []) ≡ character_bytes (lone_unit_char high) =
    first_alone high [] (λ h l. absurd (omega (arith, l.0))) ∙ ap (λ (l : List ℕ). character_bytes (lone_unit_char high) ++ l) nothing ∙ append-nil (character_bytes (lone_unit_char high)) in
    is ∙ ap (λ (l : List ℕ). text ++ l) (sym alone)
    ∙ ap (λ (l : Text). text ++ encoded (high ∷ l)) (sym (drop_of_length-le units all)) ∙ before

-- ---- the end of a line

pub ends_at : (text : Text) (d : ℕ) → 0 < length text → ends_line text ≡ (get_or text (length text - 1) d == 10)
ends_at [] d h = absurd (omega (arith, h))
ends_at (u ∷ []) d h = refl
ends_at (u ∷ v ∷ text) d h =
    let place : length (u ∷ v ∷ text) - 1 ≡ suc (length (v ∷ text) - 1) = omega arith in
    ends_at (v ∷ text) d (omega arith) ∙ ap (λ (n : ℕ). get_or (u ∷ v ∷ text) n d == 10) (sym place)
