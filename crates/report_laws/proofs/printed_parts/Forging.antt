-- The lines behind a printed text are free, so none of them begins another report's.
use Rattle.std.proofs.Common.{◌≡◌, ◌⊎◌, ℕ, suc, List, [], ◌∷◌, ◌++◌, Option, Bool, true, false, cond, ◌&&◌, refl, sym, ap, ◌∙◌, append-nil, append_assoc, inl, inr, ⊎_elim, Some, get_or, drop}
use Rattle.std.specs.Prelude.{codes}
use Rattle.std.specs.Char.{encode_utf8}
use Rattle.std.specs.Fmt.{digits}
use Rattle.std.specs.List.{flat_map}
use Rattle.std.specs.Char.Utf16.{is_high_surrogate, is_low_surrogate, lone_unit_char, surrogate_pair_char, utf16_chars}
use Rattle.std.proofs.lemmas.Bool.{false≢true, and_parts, eqb-true}
use Rattle.std.proofs.lemmas.List.{append_cancel_left}
use Rattle.model.specs.Texts.{Text, character_bytes, encoded, ends_line, printed_lines}
use Rattle.model.specs.declared.end.End.{End}
use Rattle.model.specs.declared.end.End.TheVariants as ends
use Rattle.model.specs.declared.end.RunCause.{RunCause}
use Rattle.model.specs.declared.end.RunCause.TheVariants as causes
use Rattle.model.specs.Report.{ThreadEnd, Ended, Threw, Blocked, Waiting, Joining, Initialising, Runnable, cause_word, end_words, line, number, on_one_line, thread_line, thread_lines, thread_word}
use Rattle.report_laws.specs.printed_parts.Apart.{ArePrintedTextsApart, Why, ByEnd, BySeconds, ByPlace, lines_behind, why_words}
use Rattle.report_laws.proofs.printed_parts.Lines.{begins, free, free_last, free_line, no_feed, no_feed_append, no_feed_name, no_feed_number, not_free, not_zeroth, past_number, zeroth}

-- ---- no line feed in a line

word_feeds : (state : ThreadEnd) → no_feed (thread_word state) ≡ true
word_feeds Ended = refl
word_feeds (Threw name) = no_feed_append (codes "threw ") (on_one_line name) refl (no_feed_name name)
word_feeds Blocked = refl
word_feeds Waiting = refl
word_feeds Joining = refl
word_feeds Initialising = refl
word_feeds Runnable = refl

cause_feeds : (cause : RunCause) → no_feed (cause_word cause) ≡ true
cause_feeds causes.Monitors = refl
cause_feeds causes.LockCount = refl
cause_feeds causes.Memory = refl
cause_feeds causes.Objects = refl
cause_feeds causes.Cells = refl
cause_feeds causes.Threads = refl

end_feeds : (end : End) → no_feed (end_words end) ≡ true
end_feeds ends.Schedule = refl
end_feeds (ends.NotEnabled i) = no_feed_append (codes "not enabled ") (number i) refl (no_feed_number i)
end_feeds (ends.Refused i cause) = no_feed_append (codes "refused ") (number i ++ (codes " " ++ cause_word cause)) refl
    (no_feed_append (number i) (codes " " ++ cause_word cause) (no_feed_number i) (no_feed_append (codes " ") (cause_word cause) refl (cause_feeds cause)))
end_feeds ends.Quiet = refl
end_feeds ends.Budget = refl

why_feeds : (why : Why) → no_feed (why_words why) ≡ true
why_feeds (ByEnd end) = end_feeds end
why_feeds BySeconds = refl
why_feeds (ByPlace i) = no_feed_append (codes "place ") (number i) refl (no_feed_number i)

abbrev thread_text : ℕ → ThreadEnd → List ℕ
thread_text i state = codes "thread " ++ (number i ++ (codes " " ++ thread_word state))

thread_feeds : (i : ℕ) (state : ThreadEnd) → no_feed (thread_text i state) ≡ true
thread_feeds i state = no_feed_append (codes "thread ") (number i ++ (codes " " ++ thread_word state)) refl
    (no_feed_append (number i) (codes " " ++ thread_word state) (no_feed_number i) (no_feed_append (codes " ") (thread_word state) refl (word_feeds state)))

-- ---- what stands behind a printed text is free

pub record IsCalm (text : List ℕ) : Type 0 where
  others : begins zeroth text ≡ false
  frees : free text ≡ true

abbrev last_lines : ℕ → Why → List ℕ
last_lines events why = line (codes "events " ++ number events) ++ line (codes "end " ++ why_words why)

last_calm : (events : ℕ) (why : Why) → IsCalm (last_lines events why)
last_calm events why = record {
  others = refl;
  frees = free_line (codes "events " ++ number events) (line (codes "end " ++ why_words why))
      (no_feed_append (codes "events ") (number events) refl (no_feed_number events)) refl
      (free_last (codes "end " ++ why_words why) (no_feed_append (codes "end ") (why_words why) refl (why_feeds why)));
}

threads_calm : (i : ℕ) (states : List ThreadEnd) (tail : List ℕ) → IsCalm tail → IsCalm (thread_lines (suc i) states ++ tail)
threads_calm i [] tail calm = calm
threads_calm i (state ∷ states) tail calm =
    let more = threads_calm (suc i) states tail calm in
    record {
      others = not_zeroth (number (suc i)) (codes " " ++ thread_word state) (10 ∷ []) (thread_lines (suc (suc i)) states) tail (past_number i);
      frees = ap free (append_assoc (thread_line (suc i) state) (thread_lines (suc (suc i)) states) tail)
          ∙ free_line (thread_text (suc i) state) (thread_lines (suc (suc i)) states ++ tail) (thread_feeds (suc i) state) more.others more.frees;
    }

number_zero : number 0 ≡ 48 ∷ []
unfolding digits
number_zero = refl

-- they begin as the line of thread 0 does
first_line : (state : ThreadEnd) (states : List ThreadEnd) (events : ℕ) (why : Why)
    → (rest : List ℕ) × (lines_behind (state ∷ states) events why ≡ zeroth ++ rest)
first_line state states events why = (_, ap (λ (n : List ℕ). ((line (codes "thread " ++ (n ++ (codes " " ++ thread_word state)))) ++ thread_lines 1 states) ++ last_lines events why) number_zero)

behind_free : (state : ThreadEnd) (states : List ThreadEnd) (events : ℕ) (why : Why) → free (lines_behind (state ∷ states) events why) ≡ true
behind_free state states events why =
    let more = threads_calm 0 states (last_lines events why) (last_calm events why) in
    ap free (append_assoc (thread_line 0 state) (thread_lines 1 states) (last_lines events why))
    ∙ free_line (thread_text 0 state) (thread_lines 1 states ++ last_lines events why) (thread_feeds 0 state) more.others more.frees

-- ---- printed lines are whole

abbrev IsWhole : List ℕ → Type 0
IsWhole text = (front : List ℕ) × (text ≡ front ++ (10 ∷ []))

whole_append : (s t : List ℕ) → IsWhole t → IsWhole (s ++ t)
whole_append s t w = (s ++ w.0, ap (λ (l : List ℕ). s ++ l) w.1 ∙ sym (append_assoc s w.0 (10 ∷ [])))

whole_text : (b : ℕ) (text : List ℕ) → ends_line (b ∷ text) ≡ true → IsWhole (b ∷ text)
whole_text b [] h = ([], ap (λ (n : ℕ). n ∷ []) (eqb-true b 10 h))
whole_text b (c ∷ text) h = whole_append (b ∷ []) (c ∷ text) (whole_text c text h)

ends_with : (text : Text) → ends_line (text ++ 10 ∷ []) ≡ true
ends_with [] = refl
ends_with (u ∷ []) = refl
ends_with (u ∷ v ∷ text) = ends_with (v ∷ text)

ends_whole : (text : List ℕ) → IsWhole text → ends_line text ≡ true
ends_whole text w = ap ends_line w.1 ∙ ends_with w.0

-- what stands behind a part of whole lines ends a line, or is empty
ends_behind : (front text : List ℕ) → ends_line (front ++ text) ≡ true → ends_line text ≡ true
ends_behind [] text h = h
ends_behind (b ∷ []) [] h = refl
ends_behind (b ∷ []) (c ∷ text) h = h
ends_behind (b ∷ c ∷ front) text h = ends_behind (c ∷ front) text h

either_whole : (b : Bool) (xs ys : List (Option ℕ)) → (b ≡ true → IsWhole (flat_map character_bytes xs)) → IsWhole (flat_map character_bytes ys)
    → IsWhole (flat_map character_bytes (cond b xs ys))
either_whole true xs ys p q = p refl
either_whole false xs ys p q = q

one_feed : encoded (10 ∷ []) ≡ 10 ∷ []
unfolding utf16_chars encode_utf8
one_feed = refl

encoded_whole : (u : ℕ) (text : Text) → ends_line (u ∷ text) ≡ true → IsWhole (encoded (u ∷ text))
unfolding utf16_chars
encoded_whole u [] h = ([], ap (λ (n : ℕ). encoded (n ∷ [])) (eqb-true u 10 h) ∙ one_feed)
encoded_whole u (v ∷ []) h = either_whole (is_high_surrogate u && is_low_surrogate v) _ _
    (λ e. absurd (false≢true (sym (ap is_low_surrogate (eqb-true v 10 h)) ∙ (and_parts (is_high_surrogate u) (is_low_surrogate v) e).1)))
    (whole_append (character_bytes (lone_unit_char u)) (encoded (v ∷ [])) (encoded_whole v [] h))
encoded_whole u (v ∷ w ∷ text) h = either_whole (is_high_surrogate u && is_low_surrogate v) _ _
    (λ e. whole_append (character_bytes (Some (surrogate_pair_char u v))) (encoded (w ∷ text)) (encoded_whole w text h))
    (whole_append (character_bytes (lone_unit_char u)) (encoded (v ∷ w ∷ text)) (encoded_whole v (w ∷ text) h))

ended : (u : ℕ) (text : Text) (b : Bool) → ends_line (u ∷ text) ≡ b → ends_line (encoded (u ∷ text) ++ cond b [] (10 ∷ [])) ≡ true
ended u text true e = ap ends_line (append-nil (encoded (u ∷ text))) ∙ ends_whole (encoded (u ∷ text)) (encoded_whole u text e)
ended u text false e = ends_with (encoded (u ∷ text))

printed_ends : (text : Text) → ends_line (printed_lines text) ≡ true
unfolding utf16_chars
printed_ends [] = refl
printed_ends (u ∷ text) = ended u text (ends_line (u ∷ text)) refl

-- ---- two reports

-- the first text is the second one and more, and what stands behind the second one begins with that
pub record IsLonger (a b c d : List ℕ) : Type 0 where
  more : List ℕ
  front : a ≡ b ++ more
  behind : more ++ c ≡ d

longer_cons : (x y : ℕ) (a b c d : List ℕ) → x ≡ y → IsLonger a b c d → IsLonger (x ∷ a) (y ∷ b) c d
longer_cons x y a b c d e l = record { more = l.more; front = ap (λ (n : ℕ). n ∷ a) e ∙ ap (λ (t : List ℕ). y ∷ t) l.front; behind = l.behind }

split : (a b c d : List ℕ) → a ++ c ≡ b ++ d → IsLonger a b c d ⊎ IsLonger b a d c
split [] b c d h = inr (record { more = b; front = refl; behind = sym h })
split (x ∷ a) [] c d h = inl (record { more = x ∷ a; front = refl; behind = h })
split (x ∷ a) (y ∷ b) c d h =
    let same : x ≡ y = ap (λ (l : List ℕ). get_or l 0 0) h in
    ⊎_elim (λ l. inl (longer_cons x y a b c d same l)) (λ l. inr (longer_cons y x b a d c (sym same) l)) (split a b c d (ap (drop 1) h))

nothing_more : (a b c d rest more : List ℕ) → ends_line a ≡ true → c ≡ zeroth ++ rest → free d ≡ true → a ≡ b ++ more → more ++ c ≡ d → a ≡ b
nothing_more a b c d rest [] ends begin frees front behind = front ∙ append-nil b
nothing_more a b c d rest (x ∷ more) ends begin frees front behind =
    let whole = whole_text x more (ends_behind b (x ∷ more) (ap ends_line (sym front) ∙ ends)) in
    let is : whole.0 ++ (10 ∷ (zeroth ++ rest)) ≡ d =
    sym (append_assoc whole.0 (10 ∷ []) (zeroth ++ rest)) ∙ ap (λ (t : List ℕ). t ++ (zeroth ++ rest)) (sym whole.1)
    ∙ ap (λ (t : List ℕ). (x ∷ more) ++ t) (sym begin) ∙ behind in
    absurd (not_free whole.0 rest (ap free is ∙ frees))

same_front : (a b c d : List ℕ) → ends_line a ≡ true → ends_line b ≡ true → (rest : List ℕ) × (c ≡ zeroth ++ rest) → (rest : List ℕ) × (d ≡ zeroth ++ rest)
    → free c ≡ true → free d ≡ true → a ++ c ≡ b ++ d → a ≡ b
same_front a b c d ends stops first begin frees lone h =
    ⊎_elim (λ l. nothing_more a b c d first.0 l.more ends first.1 lone l.front l.behind)
    (λ l. sym (nothing_more b a d c begin.0 l.more stops begin.1 frees l.front l.behind)) (split a b c d h)

pub apart : ArePrintedTextsApart
apart p q thread other threads others events done why cause h =
    let c = lines_behind (thread ∷ threads) events why in
    let d = lines_behind (other ∷ others) done cause in
    let same : printed_lines p ≡ printed_lines q = same_front (printed_lines p) (printed_lines q) c d (printed_ends p) (printed_ends q)
    (first_line thread threads events why) (first_line other others done cause) (behind_free thread threads events why) (behind_free other others done cause) h in
    (same, append_cancel_left (printed_lines q) c d (ap (λ (t : List ℕ). t ++ c) (sym same) ∙ h))
