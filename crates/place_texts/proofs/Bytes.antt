-- The words of a text, byte by byte.
use Rattle.std.proofs.Common.{◌≡◌, ◌<◌, ◌≤◌, ℕ, Bool, true, false, List, [], ◌∷◌, ◌++◌, append_assoc, arith, drop, get_or, length, not, cond, refl, sym, ap, ◌∙◌}
use Rattle.std.specs.Prelude.{◌==◌}
use Rattle.std.proofs.Math.Seq.{drop-length}
use Rattle.schedule.specs.schedule_text.Text.{begins_comment, is_blank, with_word, words_from}
use Rattle.schedule.proofs.schedule_text.WordLaws.{blank_ends, comment_ends, goes_on}

-- a word that ends, and others
pub with_others : (word : List ℕ) (others : List (List ℕ)) → with_word word [] ++ others ≡ with_word word others
with_others [] others = refl
with_others (b ∷ bs) others = refl

in_comment : (b : ℕ) (word bs : List ℕ) → words_from (not (b == 10)) word bs ≡ words_from true word (b ∷ bs)
unfolding words_from
in_comment b word bs = elim (b == 10) as (λ t. words_from (not t) word bs ≡ cond t (words_from false word bs) (words_from true word bs)) [ true ↦ refl | false ↦ refl ]

-- ---- the first byte of some

pub passed : (comment : Bool) (word bytes : List ℕ) (words : List (List ℕ)) → 0 < length bytes → comment ≡ true
    → words ++ words_from (not (get_or bytes 0 0 == 10)) word (drop 1 bytes) ≡ words ++ words_from comment word bytes
passed comment word [] words some is = absurd (omega arith)
passed comment word (b ∷ bs) words some is = ap (λ l. words ++ l) (in_comment b word bs ∙ ap (λ c. words_from c word (b ∷ bs)) (sym is))

ended : (word : List ℕ) (words others old : List (List ℕ)) (rest : List (List ℕ)) → words ≡ old ++ with_word word []
    → others ≡ with_word word rest → words ++ rest ≡ old ++ others
ended word words others old rest are is =
    ap (λ l. l ++ rest) are ∙ append_assoc old (with_word word []) rest ∙ ap (λ l. old ++ l) (with_others word rest ∙ sym is)

pub blank : (comment : Bool) (word next bytes : List ℕ) (old words : List (List ℕ)) → 0 < length bytes → comment ≡ false
    → is_blank (get_or bytes 0 0) ≡ true → words ≡ old ++ with_word word [] → next ≡ []
    → words ++ words_from false next (drop 1 bytes) ≡ old ++ words_from comment word bytes
blank comment word next [] old words some is blank_is are none = absurd (omega arith)
blank comment word next (b ∷ bs) old words some is blank_is are none =
    ap (λ w. words ++ words_from false w bs) none
    ∙ ended word words (words_from false word (b ∷ bs)) old (words_from false [] bs) are (blank_ends b word bs blank_is)
    ∙ ap (λ c. old ++ words_from c word (b ∷ bs)) (sym is)

pub begins : (comment : Bool) (word next bytes : List ℕ) (old words : List (List ℕ)) → 0 < length bytes → comment ≡ false
    → is_blank (get_or bytes 0 0) ≡ false → begins_comment bytes ≡ true → words ≡ old ++ with_word word [] → next ≡ []
    → words ++ words_from true next (drop 1 bytes) ≡ old ++ words_from comment word bytes
begins comment word next [] old words some is blank_is comment_is are none = absurd (omega arith)
begins comment word next (b ∷ bs) old words some is blank_is comment_is are none =
    ap (λ w. words ++ words_from true w bs) none
    ∙ ended word words (words_from false word (b ∷ bs)) old (words_from true [] bs) are (comment_ends b word bs blank_is comment_is)
    ∙ ap (λ c. old ++ words_from c word (b ∷ bs)) (sym is)

pub lengthened : (comment : Bool) (word next bytes : List ℕ) (words : List (List ℕ)) → 0 < length bytes → comment ≡ false
    → is_blank (get_or bytes 0 0) ≡ false → begins_comment bytes ≡ false → next ≡ word ++ get_or bytes 0 0 ∷ []
    → words ++ words_from false next (drop 1 bytes) ≡ words ++ words_from comment word bytes
lengthened comment word next [] words some is blank_is comment_is longer = absurd (omega arith)
lengthened comment word next (b ∷ bs) words some is blank_is comment_is longer =
    ap (λ w. words ++ words_from false w bs) longer
    ∙ ap (λ l. words ++ l) (sym (goes_on b word bs blank_is comment_is))
    ∙ ap (λ c. words ++ words_from c word (b ∷ bs)) (sym is)

-- ---- at the end

at_the_end : (comment : Bool) (word : List ℕ) → words_from comment word [] ≡ with_word word []
unfolding words_from
at_the_end true word = refl
at_the_end false word = refl

pub all_read : (comment : Bool) (word rest : List ℕ) (all words last : List (List ℕ)) → rest ≡ []
    → words ++ words_from comment word rest ≡ all → last ≡ words ++ with_word word [] → last ≡ all
all_read comment word rest all words last none so_far are =
    are ∙ ap (λ l. words ++ l) (sym (at_the_end comment word)) ∙ ap (λ r. words ++ words_from comment word r) (sym none) ∙ so_far

pub none_left : (text : List ℕ) (at : ℕ) → length text ≤ at → at ≤ length text → drop at text ≡ []
none_left text at le ge =
    let is : at ≡ length text = omega arith in
    ap (λ k. drop k text) is ∙ drop-length text
