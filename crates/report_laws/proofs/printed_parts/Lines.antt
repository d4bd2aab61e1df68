-- Lines: texts without a line feed, and texts in which no line behind the first begins as a thread 0's.
use Rattle.std.proofs.Common.{◌≡◌, ◌≢◌, ℕ, suc, zero, ◌+◌, ◌<◌, ◌/◌, ◌%◌, List, [], ◌∷◌, ◌++◌, Bool, true, false, not, cond, eqb, ◌&&◌, refl, ap, ◌∙◌, append_assoc, arith}
use Rattle.std.specs.Prelude.{codes, nat_lt}
use Rattle.std.specs.Fmt.{decimal, digit_glyph, digits, digits_onto}
use Rattle.std.proofs.lemmas.Bool.{false≢true, and_parts, eqb-true, ne_eqb}
use Rattle.model.specs.Report.{line, on_one_line}

-- the text begins with the other one
abbrev pub begins : List ℕ → List ℕ → Bool
begins [] text = true
begins (c ∷ cs) [] = false
begins (c ∷ cs) (b ∷ text) = eqb b c && begins cs text

-- how the line of thread 0 begins
abbrev pub zeroth : List ℕ
zeroth = codes "thread 0 "

-- no line behind the first begins so
abbrev pub free : List ℕ → Bool
free [] = true
free (b ∷ text) = not (begins (10 ∷ zeroth) (b ∷ text)) && free text

abbrev pub no_feed : List ℕ → Bool
no_feed [] = true
no_feed (b ∷ text) = not (eqb b 10) && no_feed text

not_true : (b : Bool) → not b ≡ true → b ≡ false
not_true true h = absurd (false≢true h)
not_true false h = refl

both_true : (a b : Bool) → a ≡ true → b ≡ true → (a && b) ≡ true
both_true a b p q = ap (λ (x : Bool). x && b) p ∙ q

and_right : (a b : Bool) → b ≡ false → (a && b) ≡ false
and_right true b h = h
and_right false b h = refl

pub no_feed_append : (s t : List ℕ) → no_feed s ≡ true → no_feed t ≡ true → no_feed (s ++ t) ≡ true
no_feed_append [] t n m = m
no_feed_append (b ∷ s) t n m = let both = and_parts (not (eqb b 10)) (no_feed s) n in
    both_true (not (eqb b 10)) (no_feed (s ++ t)) both.0 (no_feed_append s t both.1 m)

one_line_byte : (b : ℕ) (is : Bool) → eqb b 10 ≡ is → no_feed (cond is (codes "\\n") (b ∷ [])) ≡ true
one_line_byte b true e = refl
one_line_byte b false e = ap (λ (x : Bool). not x && true) e

pub no_feed_name : (name : List ℕ) → no_feed (on_one_line name) ≡ true
no_feed_name [] = refl
no_feed_name (b ∷ name) = no_feed_append (cond (eqb b 10) (codes "\\n") (b ∷ [])) (on_one_line name) (one_line_byte b (eqb b 10) refl) (no_feed_name name)

-- ---- numbers

glyph_at_least : (d : ℕ) → 47 < digit_glyph false d
glyph_at_least d = by (nat_lt d 10)
  where
    by : (b : Bool) → 47 < cond b (48 + d) (87 + d)
    by true = omega arith
    by false = omega arith

glyph_is_not : (d c : ℕ) → c < 48 → eqb (digit_glyph false d) c ≡ false
glyph_is_not d c low = ne_eqb (digit_glyph false d) c (λ e. omega (arith, glyph_at_least d, low, e))

either : (P : List ℕ → Type 0) (b : Bool) (xs ys : List ℕ) → P xs → P ys → P (cond b xs ys)
either P true xs ys p q = p
either P false xs ys p q = q

no_feed_onto : (k n : ℕ) (acc : List ℕ) → no_feed acc ≡ true → no_feed (digits_onto k 10 false n acc) ≡ true
no_feed_onto zero n acc h = h
no_feed_onto (suc k) n acc h =
    let more : no_feed (digit_glyph false (n % 10) ∷ acc) ≡ true = both_true (not (eqb (digit_glyph false (n % 10)) 10)) (no_feed acc) (ap not (glyph_is_not (n % 10) 10 (omega arith))) h in
    either (λ l. no_feed l ≡ true) (eqb (n / 10) 0) _ _ more (no_feed_onto k (n / 10) _ more)

pub no_feed_number : (n : ℕ) → no_feed (decimal n) ≡ true
unfolding digits
no_feed_number n = no_feed_onto 64 n [] refl

-- a text that isn't `0` alone, and has no space as its second byte
abbrev pub is_past_zero : List ℕ → Bool
is_past_zero [] = false
is_past_zero (b ∷ []) = not (eqb b 48)
is_past_zero (b ∷ c ∷ text) = not (eqb c 32)

past_onto : (k n c : ℕ) (acc : List ℕ) → eqb c 32 ≡ false → is_past_zero (c ∷ acc) ≡ true → is_past_zero (digits_onto k 10 false n (c ∷ acc)) ≡ true
past_onto zero n c acc s h = h
past_onto (suc k) n c acc s h =
    let more : is_past_zero (digit_glyph false (n % 10) ∷ c ∷ acc) ≡ true = ap not s in
    either (λ l. is_past_zero l ≡ true) (eqb (n / 10) 0) _ _ more
    (past_onto k (n / 10) (digit_glyph false (n % 10)) (c ∷ acc) (glyph_is_not (n % 10) 32 (omega arith)) more)

past_two : (k n c : ℕ) → eqb c 32 ≡ false → is_past_zero (digits_onto (suc k) 10 false n (c ∷ [])) ≡ true
past_two k n c s =
    let more : is_past_zero (digit_glyph false (n % 10) ∷ c ∷ []) ≡ true = ap not s in
    either (λ l. is_past_zero l ≡ true) (eqb (n / 10) 0) _ _ more
    (past_onto k (n / 10) (digit_glyph false (n % 10)) (c ∷ []) (glyph_is_not (n % 10) 32 (omega arith)) more)

some_glyph : (d : ℕ) → 0 < d → eqb (digit_glyph false d) 48 ≡ false
some_glyph d some = ne_eqb (digit_glyph false d) 48 (by (nat_lt d 10))
  where
    by : (b : Bool) → cond b (48 + d) (87 + d) ≢ 48
    by true e = omega (arith, some, e)
    by false e = omega (arith, e)

first_digits : (n : ℕ) (b : Bool) → 0 < n → eqb (n / 10) 0 ≡ b
    → is_past_zero (cond b (digit_glyph false (n % 10) ∷ []) (digits_onto 63 10 false (n / 10) (digit_glyph false (n % 10) ∷ []))) ≡ true
first_digits n true some e = ap not (some_glyph (n % 10) (omega (arith, some, eqb-true (n / 10) 0 e)))
first_digits n false some e = past_two 62 (n / 10) (digit_glyph false (n % 10)) (glyph_is_not (n % 10) 32 (omega arith))

pub past_number : (i : ℕ) → is_past_zero (decimal (suc i)) ≡ true
unfolding digits
past_number i = first_digits (suc i) (eqb (suc i / 10) 0) (omega arith) refl

-- such a text isn't read as `0` and a space, whatever stands behind it
pub not_zeroth : (l x y z w : List ℕ) → is_past_zero l ≡ true → begins (48 ∷ 32 ∷ []) ((((l ++ x) ++ y) ++ z) ++ w) ≡ false
not_zeroth [] x y z w h = absurd (false≢true h)
not_zeroth (b ∷ []) x y z w h = ap (λ (e : Bool). e && begins (32 ∷ []) (((x ++ y) ++ z) ++ w)) (not_true (eqb b 48) h)
not_zeroth (b ∷ c ∷ l) x y z w h = and_right (eqb b 48) (eqb c 32 && true) (ap (λ (e : Bool). e && true) (not_true (eqb c 32) h))

-- ---- lines

free_text : (t l : List ℕ) → no_feed t ≡ true → free l ≡ true → free (t ++ l) ≡ true
free_text [] l n f = f
free_text (b ∷ t) l n f = let both = and_parts (not (eqb b 10)) (no_feed t) n in
    ap (λ (x : Bool). not (x && begins zeroth (t ++ l)) && free (t ++ l)) (not_true (eqb b 10) both.0) ∙ free_text t l both.1 f

free_feed : (l : List ℕ) → begins zeroth l ≡ false → free l ≡ true → free (10 ∷ l) ≡ true
free_feed l b f = ap (λ (x : Bool). not x && free l) b ∙ f

pub free_line : (t l : List ℕ) → no_feed t ≡ true → begins zeroth l ≡ false → free l ≡ true → free (line t ++ l) ≡ true
free_line t l n b f = ap free (append_assoc t (10 ∷ []) l) ∙ free_text t (10 ∷ l) n (free_feed l b f)

pub free_last : (t : List ℕ) → no_feed t ≡ true → free (line t) ≡ true
free_last t n = free_text t (10 ∷ []) n refl

-- no such line stands in a free text
pub not_free : (front l : List ℕ) → free (front ++ (10 ∷ (zeroth ++ l))) ≡ true → ⊥
not_free [] l f = false≢true f
not_free (b ∷ front) l f = not_free front l (and_parts (not (begins (10 ∷ zeroth) (b ∷ (front ++ (10 ∷ (zeroth ++ l)))))) (free (front ++ (10 ∷ (zeroth ++ l)))) f).1
