-- The words of a text, byte by byte.
use Rattle.std.proofs.Common.{◌≡◌, ◌≤◌, ◌<◌, ◌+◌, ℕ, Bool, true, false, List, [], ◌∷◌, ◌++◌, length, get_or, take, drop, refl, sym, ap, subst, ◌∙◌, arith, not, cond, ◌-◌, add-zero, inl, inr}
use Rattle.std.specs.Prelude.{◌||◌, ◌==◌}
use Rattle.std.proofs.lemmas.Bool.{cases_eq}
use Rattle.std.proofs.lemmas.Grind.{common_steps}
use Rattle.std.proofs.lemmas.List.{drop_more, get_or-drop, take_more}
use Rattle.std.proofs.Math.Seq.{drop-length}
use Rattle.schedule.specs.schedule_text.Text.{begins_comment, begins_slashes, behind_comments, is_blank, with_word, words_from, words_of}

-- ---- one byte

pub in_comment : (b : ℕ) (bs : List ℕ) → words_from (not (b == 10)) [] bs ≡ words_from true [] (b ∷ bs)
unfolding words_from
in_comment b bs = elim (b == 10) as (λ t. words_from (not t) [] bs ≡ cond t (words_from false [] bs) (words_from true [] bs)) [ true ↦ refl | false ↦ refl ]

pub blank_ends : (b : ℕ) (word bs : List ℕ) → is_blank b ≡ true → words_from false word (b ∷ bs) ≡ with_word word (words_from false [] bs)
unfolding words_from
blank_ends b word bs e = rw e refl

pub comment_ends : (b : ℕ) (word bs : List ℕ) → is_blank b ≡ false → begins_comment (b ∷ bs) ≡ true
    → words_from false word (b ∷ bs) ≡ with_word word (words_from true [] bs)
unfolding words_from
comment_ends b word bs e f = rw (e, f) refl

pub goes_on : (b : ℕ) (word bs : List ℕ) → is_blank b ≡ false → begins_comment (b ∷ bs) ≡ false
    → words_from false word (b ∷ bs) ≡ words_from false (word ++ b ∷ []) bs
unfolding words_from
goes_on b word bs e f = rw (e, f) refl

pub no_byte : (comment : Bool) → words_from comment [] [] ≡ []
unfolding words_from
no_byte true = refl
no_byte false = refl

pub last_word : (word : List ℕ) → words_from false word [] ≡ with_word word []
unfolding words_from
last_word word = refl

-- ---- whether a word ends

pub both_false : (p q : Bool) → (p || q) ≡ false → (p ≡ false) × (q ≡ false)
both_false true q e = (e, elim (q) as (λ t. t ≡ false) [ true ↦ e | false ↦ refl ])
both_false false q e = (refl, e)

-- what ends a word ends the one that has begun, and stands before the same words
pub ends_there : (b : ℕ) (word bs : List ℕ) → (is_blank b || begins_comment (b ∷ bs)) ≡ true
    → words_from false word (b ∷ bs) ≡ with_word word (words_of (b ∷ bs))
ends_there b word bs e = elim (is_blank b) as (λ t. is_blank b ≡ t → (t || begins_comment (b ∷ bs)) ≡ true → words_from false word (b ∷ bs) ≡ with_word word (words_of (b ∷ bs))) [
  | true ↦ λ h. λ _. blank_ends b word bs h ∙ ap (with_word word) (sym (blank_ends b [] bs h))
  | false ↦ λ h. λ k. comment_ends b word bs h k ∙ ap (with_word word) (sym (comment_ends b [] bs h k))
] refl e

pub stays_there : (b : ℕ) (word bs : List ℕ) → (is_blank b || begins_comment (b ∷ bs)) ≡ false
    → words_from false word (b ∷ bs) ≡ words_from false (word ++ b ∷ []) bs
stays_there b word bs e =
    let p : (is_blank b ≡ false) × (begins_comment (b ∷ bs) ≡ false) = both_false (is_blank b) (begins_comment (b ∷ bs)) e in
    goes_on b word bs p.0 p.1

-- ---- at a place of a text

pub ends_at : (bytes : List ℕ) (at : ℕ) (word : List ℕ) → at < length bytes
    → (is_blank (get_or bytes at 0) || begins_comment (drop at bytes)) ≡ true
    → words_from false word (drop at bytes) ≡ with_word word (words_of (drop at bytes))
ends_at bytes at word lt e =
    let d = drop_more bytes at 0 lt in
    rw d (ends_there (get_or bytes at 0) word (drop (at + 1) bytes) (subst (λ bs. (is_blank (get_or bytes at 0) || begins_comment bs) ≡ true) d e))

pub stays_at : (bytes : List ℕ) (at : ℕ) → at < length bytes → (is_blank (get_or bytes at 0) || begins_comment (drop at bytes)) ≡ false
    → words_from false (take (at + 1) bytes) (drop (at + 1) bytes) ≡ words_from false (take at bytes) (drop at bytes)
stays_at bytes at lt e =
    let d = drop_more bytes at 0 lt in
    rw (take_more bytes at 0 lt) (sym (rw d (stays_there (get_or bytes at 0) (take at bytes) (drop (at + 1) bytes) (subst (λ bs. (is_blank (get_or bytes at 0) || begins_comment bs) ≡ false) d e))))

-- a word that has begun is one
pub begun : (word : List ℕ) (words : List (List ℕ)) → 0 < length word → with_word word words ≡ word ∷ words
begun [] words h = elim (h) [ ]
begun (b ∷ bs) words h = refl

-- ---- slices

true_not_false : true ≡ false → ⊥
true_not_false e = absurd cc

pub rest_of : (bytes : List ℕ) (at : ℕ) → at ≤ length bytes → take (length bytes - at) (drop at bytes) ≡ drop at bytes
rest_of bytes at le = grind (arith, common_steps)

drop_rest : (bytes : List ℕ) (at n : ℕ) → drop n (drop at bytes) ≡ drop (at + n) bytes
drop_rest bytes at n = grind (arith, common_steps)

pub gap_ends : (bytes : List ℕ) (comment : Bool) (at : ℕ) → length bytes ≤ at → at ≤ length bytes
    → words_from comment [] (drop at bytes) ≡ words_of bytes
    → words_of (drop (length bytes) bytes) ≡ words_of bytes
gap_ends bytes comment at le ge so_far =
    let is : at ≡ length bytes = omega arith in
    let so_far : words_from comment [] [] ≡ words_of bytes = subst (λ b. words_from comment [] b ≡ words_of bytes) (ap (λ k. drop k bytes) is ∙ drop-length bytes) so_far in
    ap words_of (drop-length bytes) ∙ no_byte false ∙ sym (no_byte comment) ∙ so_far

-- a word from the front to here
pub word_ends : (bytes : List ℕ) (at : ℕ) → at < length bytes → (is_blank (get_or bytes 0 0) || begins_comment bytes) ≡ false
    → (is_blank (get_or (take (length bytes - at) (drop at bytes)) 0 0) || begins_comment (take (length bytes - at) (drop at bytes))) ≡ true
    → words_from false (take at bytes) (drop at bytes) ≡ words_of bytes → words_of bytes ≡ take at bytes ∷ words_of (drop at bytes)
word_ends bytes at lt first e so_far =
    let e : (is_blank (get_or (drop at bytes) 0 0) || begins_comment (drop at bytes)) ≡ true = subst (λ r. (is_blank (get_or r 0 0) || begins_comment r) ≡ true) (rest_of bytes at (omega arith)) e in
    let here : (is_blank (get_or bytes at 0) || begins_comment (drop at bytes)) ≡ true = subst (λ b. (is_blank b || begins_comment (drop at bytes)) ≡ true) (get_or-drop at bytes 0 0 ∙ ap (λ k. get_or bytes k 0) (add-zero at)) e in
    let some : 0 < at = elim (cases_eq at 0) [
      | inl z ↦ absurd (true_not_false (sym (subst (λ k. (is_blank (get_or bytes k 0) || begins_comment (drop k bytes)) ≡ true) z here) ∙ first))
      | inr n ↦ omega (arith, n)
    ] in
    sym so_far ∙ ends_at bytes at (take at bytes) lt here ∙ begun (take at bytes) (words_of (drop at bytes)) (grind (arith, common_steps))

pub word_goes_on : (bytes : List ℕ) (at : ℕ) → at < length bytes
    → (is_blank (get_or (take (length bytes - at) (drop at bytes)) 0 0) || begins_comment (take (length bytes - at) (drop at bytes)))
    ≡ false
    → words_from false (take at bytes) (drop at bytes) ≡ words_of bytes
    → words_from false (take (at + 1) bytes) (drop (at + 1) bytes) ≡ words_of bytes
word_goes_on bytes at lt e so_far =
    let e : (is_blank (get_or (drop at bytes) 0 0) || begins_comment (drop at bytes)) ≡ false = subst (λ r. (is_blank (get_or r 0 0) || begins_comment r) ≡ false) (rest_of bytes at (omega arith)) e in
    let here : (is_blank (get_or bytes at 0) || begins_comment (drop at bytes)) ≡ false = subst (λ b. (is_blank b || begins_comment (drop at bytes)) ≡ false) (get_or-drop at bytes 0 0 ∙ ap (λ k. get_or bytes k 0) (add-zero at)) e in
    stays_at bytes at lt here ∙ so_far

pub word_is_last : (bytes : List ℕ) (at : ℕ) → 0 < length bytes → length bytes ≤ at → at ≤ length bytes
    → words_from false (take at bytes) (drop at bytes) ≡ words_of bytes
    → words_of bytes ≡ take (length bytes) bytes ∷ words_of (drop (length bytes) bytes)
word_is_last bytes at some le ge so_far =
    let is : at ≡ length bytes = omega arith in
    let at_end : words_from false (take (length bytes) bytes) (drop (length bytes) bytes) ≡ words_of bytes = subst (λ k. words_from false (take k bytes) (drop k bytes) ≡ words_of bytes) is so_far in
    sym at_end ∙ ap (words_from false (take (length bytes) bytes)) (drop-length bytes) ∙ last_word (take (length bytes) bytes)
    ∙ begun (take (length bytes) bytes) [] (grind (arith, common_steps)) ∙ ap (λ ws. take (length bytes) bytes ∷ ws) (sym (no_byte false) ∙ ap words_of (sym (drop-length bytes)))

pub no_word : (text : List ℕ) (at n : ℕ) → at ≤ length text → at + n ≡ length text
    → words_of (drop n (take (length text - at) (drop at text))) ≡ words_of (take (length text - at) (drop at text))
    → (words_of (drop at text) ≡ []) × (words_of (drop (at + n) text) ≡ [])
no_word text at n le is same =
    let r = rest_of text at le in
    let same : words_of (drop n (drop at text)) ≡ words_of (drop at text) = subst (λ r. words_of (drop n r) ≡ words_of r) r same in
    let gone : drop (at + n) text ≡ [] = ap (λ k. drop k text) is ∙ drop-length text in
    let none : words_of (drop (at + n) text) ≡ [] = ap words_of gone ∙ no_byte false in
    (sym same ∙ ap words_of (drop_rest text at n) ∙ none, none)

-- ---- the first byte

pub comment_stands : (bytes : List ℕ) (comment : Bool) → 0 < length bytes → comment ≡ true
    → words_from (not (get_or bytes 0 0 == 10)) [] (drop 1 bytes) ≡ words_from comment [] bytes
comment_stands [] comment h e = absurd (elim h [ ])
comment_stands (b ∷ bs) comment h e = rw e (in_comment b bs)

pub blank_first : (bytes : List ℕ) (comment : Bool) → 0 < length bytes → comment ≡ false → is_blank (get_or bytes 0 0) ≡ true
    → words_from false [] (drop 1 bytes) ≡ words_from comment [] bytes
blank_first [] comment h e f = absurd (elim h [ ])
blank_first (b ∷ bs) comment h e f = rw e (sym (blank_ends b [] bs f))

pub comment_first : (bytes : List ℕ) (comment : Bool) → 0 < length bytes → comment ≡ false → is_blank (get_or bytes 0 0) ≡ false
    → begins_comment bytes ≡ true
    → words_from true [] (drop 1 bytes) ≡ words_from comment [] bytes
comment_first [] comment h e f g = absurd (elim h [ ])
comment_first (b ∷ bs) comment h e f g = rw e (sym (comment_ends b [] bs f g))

-- ---- the comments in front

pub comment_goes_on : (bytes : List ℕ) (comment : Bool) → 0 < length bytes → comment ≡ true
    → behind_comments (not (get_or bytes 0 0 == 10)) (drop 1 bytes) ≡ behind_comments comment bytes
unfolding behind_comments
comment_goes_on [] comment h e = absurd (elim h [ ])
comment_goes_on (b ∷ bs) comment h e = rw e refl

pub front_is_blank : (bytes : List ℕ) (comment : Bool) → 0 < length bytes → comment ≡ false → is_blank (get_or bytes 0 0) ≡ true
    → behind_comments false (drop 1 bytes) ≡ behind_comments comment bytes
unfolding behind_comments
front_is_blank [] comment h e f = absurd (elim h [ ])
front_is_blank (b ∷ bs) comment h e f = rw (e, f) refl

pub front_begins : (bytes : List ℕ) (comment : Bool) → 0 < length bytes → comment ≡ false → is_blank (get_or bytes 0 0) ≡ false
    → (begins_comment bytes || begins_slashes bytes) ≡ true
    → behind_comments true (drop 1 bytes) ≡ behind_comments comment bytes
unfolding behind_comments
front_begins [] comment h e f g = absurd (elim h [ ])
front_begins (b ∷ bs) comment h e f g = rw (e, f, g) refl

pub front_ends : (bytes : List ℕ) (comment : Bool) → 0 < length bytes → comment ≡ false → is_blank (get_or bytes 0 0) ≡ false
    → (begins_comment bytes || begins_slashes bytes) ≡ false
    → behind_comments comment bytes ≡ bytes
unfolding behind_comments
front_ends [] comment h e f g = absurd (elim h [ ])
front_ends (b ∷ bs) comment h e f g = rw (e, f, g) refl

pub front_is_all : (bytes : List ℕ) (comment : Bool) (at : ℕ) → length bytes ≤ at → at ≤ length bytes
    → behind_comments comment (drop at bytes) ≡ behind_comments false bytes → drop (length bytes) bytes ≡ behind_comments false bytes
unfolding behind_comments
front_is_all bytes comment at le ge so_far =
    let is : at ≡ length bytes = omega arith in
    let gone : drop at bytes ≡ [] = ap (λ k. drop k bytes) is ∙ drop-length bytes in
    drop-length bytes ∙ none comment ∙ ap (behind_comments comment) (sym gone) ∙ so_far
  where
    none : (comment : Bool) → [] ≡ behind_comments comment []
    none true = refl
    none false = refl
