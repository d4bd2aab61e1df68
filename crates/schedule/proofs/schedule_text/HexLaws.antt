-- Numbers in sixteen hexadecimal digits, as words.
use Rattle.std.proofs.Common.{◌≡◌, ◌<◌, ◌/◌, ◌^◌, ℕ, zero, suc, Bool, true, List, [], length, Result, Ok, refl, subst, sym, ap, ◌∙◌, arith, mod-lt, inl, inr}
use Rattle.std.specs.Prelude.{◌&&◌, MatchResult, nat_lt, slice_index}
use Rattle.std.specs.Int.{byte_at, bytes_high_first}
use Rattle.std.proofs.lemmas.Bool.{and_parts, cases_lt}
use Rattle.std.proofs.lemmas.List.{append-nil}
use Rattle.byteorder.specs.Endian.{big_bytes, big_number}
use Rattle.byteorder.specs.Numbers.{big_number-reads_back, length-bytes_high_first}
use Rattle.hex.specs.Hex.{IsBytes, decode_of, decode_sized, lower_digits}
use Rattle.hex.specs.declared.error.FromHexError.{FromHexError}
use Rattle.hex.proofs.HexLemmas.{IsDigits-lower_digits, decode_of-encode_lower, decode_pairs-encode_with, length-encode_with}
use Rattle.schedule.specs.schedule_text.Text.{hex_word}

-- ---- bytes

byte_fits : (k n : ℕ) → byte_at k n < 256
byte_fits zero n = mod-lt n {m = 256} (omega arith)
byte_fits (suc k) n = mod-lt (n / 256 ^ suc k) {m = 256} (omega arith)

pub are_bytes : (k n : ℕ) → IsBytes (bytes_high_first k n)
are_bytes zero n i = omega arith
are_bytes (suc k) n zero = byte_fits k n
are_bytes (suc k) n (suc i) = are_bytes k n i

pub reads_back : (n : ℕ) → n < 2 ^ 64 → big_number 8 (big_bytes 8 n) ≡ n
reads_back n small = ap (big_number 8) (sym (append-nil (big_bytes 8 n))) ∙ big_number-reads_back 8 n [] small

pub decoded : (n : ℕ) → decode_of (hex_word n) ≡ Ok (big_bytes 8 n)
decoded n = decode_of-encode_lower (big_bytes 8 n) (are_bytes 8 n)

pub length_of_word : (n : ℕ) → length (hex_word n) ≡ 16
length_of_word n = let e = length-encode_with lower_digits (big_bytes 8 n) in omega (arith, e, length-bytes_high_first 8 n)

-- so it is read, too, where room is for eight bytes
pub decoded_sized : (n : ℕ) → decode_sized (hex_word n) 8 ≡ Ok (big_bytes 8 n)
decoded_sized n = rw (length_of_word n) (decode_pairs-encode_with lower_digits IsDigits-lower_digits 0 (big_bytes 8 n) (are_bytes 8 n))

same_ok : (xs ys : List ℕ) → ◌≡◌ {A = Result (List ℕ) FromHexError} (Ok xs) (Ok ys) → xs ≡ ys
same_ok xs ys e = cc

pub hex_injective : (m n : ℕ) → m < 2 ^ 64 → n < 2 ^ 64 → hex_word m ≡ hex_word n → m ≡ n
hex_injective m n a b e =
    let bytes : big_bytes 8 m ≡ big_bytes 8 n = same_ok (big_bytes 8 m) (big_bytes 8 n) (sym (decoded m) ∙ ap decode_of e ∙ decoded n) in
    sym (reads_back m a) ∙ ap (big_number 8) bytes ∙ reads_back n b

-- what is read of a word of sixteen digits
pub is_read : (word : List ℕ) (n : ℕ) (P : List ℕ → Type 0) (Q : FromHexError → Type 0) → word ≡ hex_word n
    → MatchResult (decode_sized word 8) P Q → P (big_bytes 8 n)
is_read word n P Q is read = subst (λ r. MatchResult r P Q) (ap (λ w. decode_sized w 8) is ∙ decoded_sized n) read

-- ---- their digits stand behind `#` in ASCII

abbrev all_behind : ℕ → Bool
all_behind zero = true
all_behind (suc n) = nat_lt 35 (slice_index lower_digits n) && all_behind n

behind_at : (n k : ℕ) → all_behind n ≡ true → k < n → nat_lt 35 (slice_index lower_digits k) ≡ true
behind_at zero k h lt = absurd (omega (arith, lt))
behind_at (suc n) k h lt =
    let parts = and_parts (nat_lt 35 (slice_index lower_digits n)) (all_behind n) h in
    elim (cases_lt k n) [
      | inl below ↦ behind_at n k parts.1 below
      | inr top ↦
          let e : k ≡ n = omega (arith, lt, top) in
          rw e parts.0
    ]

pub digit_behind : (k : ℕ) → k < 16 → nat_lt 35 (slice_index lower_digits k) ≡ true
digit_behind k lt = behind_at 16 k refl lt
