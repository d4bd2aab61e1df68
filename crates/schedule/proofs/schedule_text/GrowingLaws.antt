-- Texts that grow: what is left of them up to the last white space.
use Rattle.std.proofs.Common.{◌≡◌, ◌<◌, ◌+◌, ℕ, zero, suc, Bool, true, false, List, [], ◌∷◌, ◌++◌, length, take, drop, get_or, refl, sym, ap, subst, ◌∙◌, arith, codes}
use Rattle.std.specs.Prelude.{◌||◌, if◌then◌else◌}
use Rattle.std.proofs.lemmas.List.{drop_more}
use Rattle.std.proofs.lemmas.Slice.Eq.{bytes_eq-Decides}
use Rattle.schedule.specs.schedule_text.Text.{begins_growing, has_blank, is_blank, schedule_words, text_words, up_to_blank}

-- ---- where the last white space stands

pub no_blank : (bytes : List ℕ) → has_blank bytes ≡ false → up_to_blank bytes ≡ []
no_blank [] none = refl
no_blank (b ∷ bs) none = rw none refl

pub blank_at : (bytes : List ℕ) (at : ℕ) → at < length bytes → is_blank (get_or bytes at 0) ≡ true → has_blank bytes ≡ true
blank_at [] at lt is = absurd (omega (arith, lt))
blank_at (b ∷ bs) zero lt is = rw is refl
blank_at (b ∷ bs) (suc k) lt is = either (is_blank b) (has_blank bs) (blank_at bs k (omega (arith, lt)) is)
  where
    either : (p q : Bool) → q ≡ true → (p || q) ≡ true
    either true q e = refl
    either false q e = e

pub blank_within : (xs : List ℕ) (g : ℕ) (ys : List ℕ) → is_blank g ≡ true → has_blank (xs ++ g ∷ ys) ≡ true
blank_within [] g ys is = rw is refl
blank_within (x ∷ xs) g ys is = elim (is_blank x) as (λ t. (t || has_blank (xs ++ g ∷ ys)) ≡ true) [
  | true ↦ refl
  | false ↦ blank_within xs g ys is
]

pub last_blank : (bytes : List ℕ) (at : ℕ) → at < length bytes → is_blank (get_or bytes at 0) ≡ true → has_blank (drop (at + 1) bytes) ≡ false
    → up_to_blank bytes ≡ take (at + 1) bytes
last_blank [] at lt is none = absurd (omega (arith, lt))
last_blank (b ∷ bs) zero lt is none =
    ap (λ t. if t then b ∷ up_to_blank bs else []) (blank_at (b ∷ bs) zero lt is) ∙ ap (λ l. b ∷ l) (no_blank bs none)
last_blank (b ∷ bs) (suc k) lt is none =
    let next : suc k + 1 ≡ suc (k + 1) = omega arith in
    let behind : has_blank (drop (k + 1) bs) ≡ false = subst (λ j. has_blank (drop j (b ∷ bs)) ≡ false) next none in
    ap (λ t. if t then b ∷ up_to_blank bs else []) (blank_at (b ∷ bs) (suc k) lt is) ∙ ap (λ l. b ∷ l) (last_blank bs k (omega (arith, lt)) is behind)
    ∙ ap (λ j. take j (b ∷ bs)) (sym next)

pub no_blank_from : (bytes : List ℕ) (at : ℕ) → at < length bytes → is_blank (get_or bytes at 0) ≡ false → has_blank (drop (at + 1) bytes) ≡ false
    → has_blank (drop at bytes) ≡ false
no_blank_from bytes at lt is none = ap has_blank (drop_more bytes at 0 lt) ∙ ap (λ t. t || has_blank (drop (at + 1) bytes)) is ∙ none

-- ---- whether the first word is `#growing`

pub growing_begins : (words rest : List (List ℕ)) → words ≡ codes "#growing" ∷ rest → begins_growing words ≡ true
growing_begins words rest is = ap begins_growing is

pub growing_is_first : (words : List (List ℕ)) → begins_growing words ≡ true → (rest : List (List ℕ)) × (words ≡ codes "#growing" ∷ rest)
growing_is_first [] is = absurd cc
growing_is_first (w ∷ ws) is = (ws, ap (λ x. x ∷ ws) ((bytes_eq-Decides w (codes "#growing")).0 is))

-- where it isn't, all words of the text are those of the schedule
pub plain_text : (text : List ℕ) (words : List (List ℕ)) → text_words text ≡ words → begins_growing words ≡ false → schedule_words text ≡ words
plain_text text words is other =
    ap (λ ws. if begins_growing ws then drop 1 (text_words (up_to_blank text)) else ws) is
    ∙ ap (λ t. if t then drop 1 (text_words (up_to_blank text)) else words) other

-- where it is, all but the first
pub growing_text : (text : List ℕ) (rest words : List (List ℕ)) → text_words text ≡ codes "#growing" ∷ rest
    → drop 1 (text_words (up_to_blank text)) ≡ words → schedule_words text ≡ words
growing_text text rest words is others =
    ap (λ ws. if begins_growing ws then drop 1 (text_words (up_to_blank text)) else ws) is ∙ others
