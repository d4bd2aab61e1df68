-- Which bytes are kept as they are: each byte below 128 is tried.
use Rattle.std.proofs.Common.{◌≡◌, ℕ, zero, suc, ◌<◌, Bool, true, false, ◌&&◌, ◌||◌, ◌==◌, not, nat_lt, refl, ap, sym, ◌∙◌, arith}
use Rattle.std.specs.Prelude.{nat_le}
use Rattle.std.proofs.lemmas.Bool.Decides.{nat_tests}
use Rattle.percent_encoding.proofs.AsciiSetLemmas.{ascii_from_kept}
use Rattle.percent_encoding.proofs.OnLiterals.{percent_encoding_on_literals}
use Rattle.percent_encoding.proofs.PercentLemmas.{IsEscapeByte}
use Rattle.percent_encoding.specs.AsciiSet.{should_percent_encode}
use Rattle.pages.specs.Pages.{IsTextByte}
use Rattle.pages.specs.declared.page.TheConstants.{ESCAPED}

abbrev is_text : ℕ → Bool
is_text b = (b == 10) || (nat_le 32 b && nat_le b 126 && not (b == 0x26) && not (b == 0x3c) && not (b == 0x3e))

abbrev is_right : ℕ → Bool
is_right b = should_percent_encode ESCAPED b || is_text b

abbrev are_right : ℕ → Bool
are_right zero = true
are_right (suc n) = is_right n && are_right n

tried : are_right 128 ≡ true
unfolding percent_encoding_on_literals
tried = refl

one_of : (a b : Bool) → (a && b) ≡ true → a ≡ true
one_of true b e = refl
one_of false b e = e

other_of : (a b : Bool) → (a && b) ≡ true → b ≡ true
other_of true b e = e
other_of false b e = cc

-- of a number that is the last one, or below it
last_or : (n b : ℕ) (t : Bool) → nat_lt b n ≡ t → b < suc n → is_right n ≡ true → (b < n → is_right b ≡ true) → is_right b ≡ true
last_or n b true e lt last others = others (grind (arith, nat_tests))
last_or n b false e lt last others =
    let is : b ≡ n = grind (arith, nat_tests) in
    ap is_right is ∙ last

below : (n b : ℕ) → are_right n ≡ true → b < n → is_right b ≡ true
below zero b all lt = absurd (omega (arith, lt))
below (suc n) b all lt =
    last_or n b (nat_lt b n) refl lt (one_of (is_right n) (are_right n) all) (below n b (other_of (is_right n) (are_right n) all))

text_byte : (b : ℕ) → is_text b ≡ true → IsTextByte b
text_byte b e = grind (arith, nat_tests)

pub kept_byte : (b : ℕ) → should_percent_encode ESCAPED b ≡ false → IsTextByte b
kept_byte b kept =
    text_byte b (sym (ap (λ t. t || is_text b) kept) ∙ below 128 b tried (ascii_from_kept ESCAPED b kept))

pub escape_byte : (b : ℕ) → IsEscapeByte b → IsTextByte b
escape_byte b escape = grind arith
