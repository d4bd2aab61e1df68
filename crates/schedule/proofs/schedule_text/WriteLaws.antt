-- Words that are written.
use Rattle.std.proofs.Common.{codes, ◌≡◌, ◌<◌, ◌^◌, ◌+◌, ◌-◌, ◌%◌, ℕ, suc, Bool, true, false, List, [], ◌∷◌, ◌++◌, length, map, get_or, drop, refl, sym, ap, ◌∙◌, arith, decimal, append_assoc, length-append, mod-lt, ◌/◌, inl, inr, Option, Some, None}
use Rattle.std.specs.Prelude.{◌==◌, ◌||◌, ◌&&◌, nat_lt, if◌then◌else◌}
use Rattle.std.specs.List.{AllByRecursion}
use Rattle.std.proofs.Math.Seq.{drop-length}
use Rattle.std.proofs.lemmas.Bool.{eqb-true, lt-ltb, ltb-true}
use Rattle.std.proofs.lemmas.Fmt.{decimal_nonempty}
use Rattle.std.proofs.lemmas.Slice.Eq.{bytes_eq-Decides}
use Rattle.std.specs.Str.{bytes_eq}
use Rattle.std.proofs.lemmas.List.{append-nil, drop_more, get_or_append_left, length-drop, length-map}
use Rattle.byteorder.specs.Endian.{big_bytes}
use Rattle.hex.specs.Hex.{IsBytes, encode_with, lower_digits}
use Rattle.model.specs.Schedule.{AreEntries, EntryFits}
use Rattle.model.specs.declared.event.ScheduleEntry.{ScheduleEntry}
use Rattle.model.specs.declared.limits.Limits.{Limits}
use Rattle.schedule.specs.Files.{Checksums, RecordedFits, Recording}
use Rattle.schedule.specs.schedule_text.Printing.{gap_after, in_lines, laid_out, printed_checksums, printed_library, printed_recording, printed_schedule}
use Rattle.schedule.specs.schedule_text.Text.{SpellsSchedule, begins_comment, begins_growing, begins_slashes, behind_comments, checked_words, entry_tail, entry_word, hex_word, is_blank, last_words, library_words, limit_words, recording_words, with_word, words_from, words_of}
use Rattle.schedule.proofs.schedule_text.EntryLaws.{AreDigits, decimal_digits, form_of}
use Rattle.schedule.proofs.schedule_text.GrowingLaws.{plain_text}
use Rattle.schedule.proofs.schedule_text.HexLaws.{are_bytes, digit_behind, length_of_word}
use Rattle.schedule.proofs.schedule_text.WordLaws.{begun, blank_ends, front_ends, no_byte, stays_there}

-- ---- plain words

-- whether no byte is white space or `#`, nor one that stands before `$` in ASCII
abbrev pub is_plain : List ℕ → Bool
is_plain [] = true
is_plain (b ∷ bs) = nat_lt 35 b && is_plain bs

abbrev pub IsPlainWord : List ℕ → Type 0
IsPlainWord word = (is_plain word ≡ true) × (0 < length word)

pub both_true : (p q : Bool) → (p && q) ≡ true → (p ≡ true) × (q ≡ true)
both_true true q e = (refl, e)
both_true false q e = absurd cc

not_equal : (b k : ℕ) → (b ≡ k → ⊥) → (b == k) ≡ false
not_equal b k d = elim (b == k) as (λ t. (b == k) ≡ t → t ≡ false) [ true ↦ λ h. absurd (d (eqb-true b k h)) | false ↦ λ _. refl ] refl

pub plain_byte : (b : ℕ) (bs : List ℕ) → nat_lt 35 b ≡ true → (is_blank b || begins_comment (b ∷ bs)) ≡ false
plain_byte b bs e =
    let lt : 35 < b = ltb-true 35 b e in
    rw (not_equal b 9 (λ h. omega (arith, lt, h)), not_equal b 10 (λ h. omega (arith, lt, h)), not_equal b 13 (λ h. omega (arith, lt, h)), not_equal b 32 (λ h. omega (arith, lt, h)), not_equal b 35 (λ h. omega (arith, lt, h))) refl

pub plain_word : (w begun : List ℕ) (gap : ℕ) (more : List ℕ) → is_plain w ≡ true → is_blank gap ≡ true
    → words_from false begun (w ++ gap ∷ more) ≡ with_word (begun ++ w) (words_of more)
plain_word [] begun gap more p blank = blank_ends gap begun more blank ∙ ap (λ x. with_word x (words_of more)) (sym (append-nil begun))
plain_word (b ∷ bs) begun gap more p blank =
    let q = both_true (nat_lt 35 b) (is_plain bs) p in
    stays_there b begun (bs ++ gap ∷ more) (plain_byte b (bs ++ gap ∷ more) q.0) ∙ plain_word bs (begun ++ b ∷ []) gap more q.1 blank ∙ ap (λ x. with_word x (words_of more)) (append_assoc begun (b ∷ []) bs)

pub gap_is_blank : (place left : ℕ) → is_blank (gap_after place left) ≡ true
gap_is_blank place left = elim (place % 16 == 15 || left == 0) as (λ t. is_blank (if t then 10 else 32) ≡ true) [ true ↦ refl | false ↦ refl ]

plain_append : (xs ys : List ℕ) → is_plain xs ≡ true → is_plain ys ≡ true → is_plain (xs ++ ys) ≡ true
plain_append [] ys p q = q
plain_append (x ∷ xs) ys p q =
    let r = both_true (nat_lt 35 x) (is_plain xs) p in
    rw (r.0, plain_append xs ys r.1 q) refl

plain_digits : (ds : List ℕ) → AreDigits ds → is_plain ds ≡ true
plain_digits [] all = refl
plain_digits (d ∷ ds) all =
    let first = all 0 (omega arith) in
    let big : 35 < d = omega (arith, first.0) in
    rw (lt-ltb 35 d big, plain_digits ds (λ k. λ lt. all (suc k) (omega (arith, lt)))) refl

plain_decimal : (n : ℕ) → n < 2 ^ 64 → is_plain (decimal n) ≡ true
plain_decimal n small = plain_digits (decimal n) (decimal_digits n small)

plain_tail : (e : ScheduleEntry) → EntryFits e → is_plain (entry_tail e) ≡ true
plain_tail e fits = elim (form_of e fits) [
  | inl a ↦ rw a.2 refl
  | inr o ↦ elim o [
    | inl b ↦ rw b.2 (plain_decimal e.event.pick (omega (arith, fits.pick)))
    | inr c ↦ rw c.2 (plain_decimal e.repeat (omega (arith, fits.repeat.1)))
  ]
]

-- ---- words that are laid out

laid_words : (place : ℕ) (words : List (List ℕ)) (more : List ℕ) → AllByRecursion IsPlainWord words
    → words_of (laid_out place words ++ more) ≡ words ++ words_of more
laid_words place [] more plain = refl
laid_words place (w ∷ ws) more plain =
    let gap = gap_after place (length ws) in
    let rest = laid_out (place + 1) ws in
    ap (words_from false []) (append_assoc w (gap ∷ rest) more) ∙ plain_word w [] gap (rest ++ more) plain.0.0 (gap_is_blank place (length ws))
    ∙ begun w (words_of (rest ++ more)) plain.0.1 ∙ ap (λ x. w ∷ x) (laid_words (place + 1) ws more plain.1)

entry_is_plain : (e : ScheduleEntry) → EntryFits e → IsPlainWord (entry_word e)
entry_is_plain e fits =
    let small : e.event.thread < 2 ^ 64 = omega (arith, fits.thread) in (
      plain_append (decimal e.event.thread) (entry_tail e) (plain_decimal e.event.thread small) (plain_tail e fits),
      omega (arith, decimal_nonempty e.event.thread small, length-append (decimal e.event.thread) (entry_tail e)),
    )

named_is_plain : (name : List ℕ) (n : ℕ) → is_plain name ≡ true → n < 2 ^ 64 → IsPlainWord (name ++ decimal n)
named_is_plain name n p small =
    (plain_append name (decimal n) p (plain_decimal n small), omega (arith, decimal_nonempty n small, length-append name (decimal n)))

pub entries_are_plain : (es : List ScheduleEntry) → AllByRecursion EntryFits es → AllByRecursion IsPlainWord (map entry_word es)
entries_are_plain [] all = tt
entries_are_plain (e ∷ es) all = (entry_is_plain e all.0, entries_are_plain es all.1)

lengths_are_plain : (ns : List ℕ) → AllByRecursion (λ n. n < 2 ^ 64) ns → AllByRecursion IsPlainWord (map decimal ns)
lengths_are_plain [] all = tt
lengths_are_plain (n ∷ ns) all = (named_is_plain [] n refl all.0, lengths_are_plain ns all.1)

plain_hex : (bytes : List ℕ) → IsBytes bytes → is_plain (encode_with lower_digits bytes) ≡ true
unfolding encode_with
plain_hex [] small = refl
plain_hex (b ∷ bytes) small =
    let high : b / 16 < 16 = omega (arith, small 0) in
    let low : b % 16 < 16 = mod-lt b {m = 16} (omega arith) in
    rw (digit_behind (b / 16) high, digit_behind (b % 16) low, plain_hex bytes (λ i. small (suc i))) refl

hex_is_plain : (n : ℕ) → IsPlainWord (hex_word n)
hex_is_plain n = (plain_hex (big_bytes 8 n) (are_bytes 8 n), omega (arith, length_of_word n))

hexes_are_plain : (ns : List ℕ) → AllByRecursion IsPlainWord (map hex_word ns)
hexes_are_plain [] = tt
hexes_are_plain (n ∷ ns) = (hex_is_plain n, hexes_are_plain ns)

limits_are_plain : (l : Limits) → l.cells < 2 ^ 32 → AllByRecursion IsPlainWord (limit_words l)
limits_are_plain l cells = (
  named_is_plain (codes "objects=") l.objects refl (omega (arith, l.objects_fit)),
  (
    named_is_plain (codes "cells=") l.cells refl (omega (arith, cells)),
    (
      named_is_plain (codes "monitors=") l.monitors refl (omega (arith, l.monitors_fit)),
      (
        named_is_plain (codes "threads=") l.threads refl (omega (arith, l.threads_fit.1)),
        (named_is_plain (codes "frames=") l.frames refl (omega (arith, l.frames_fit.1)), tt),
      ),
    ),
  ),
)

-- ---- the words that are no plain ones

limits_stand : (more : List ℕ) → words_of (codes "#limits " ++ more) ≡ codes "#limits" ∷ words_of more
unfolding words_from
limits_stand more = refl

lengths_stand : (more : List ℕ) → words_of (codes "#lengths " ++ more) ≡ codes "#lengths" ∷ words_of more
unfolding words_from
lengths_stand more = refl

checksums_stand : (more : List ℕ) → words_of (codes "#checksums " ++ more) ≡ codes "#checksums" ∷ words_of more
unfolding words_from
checksums_stand more = refl

library_stands : (more : List ℕ) → words_of (codes "#library " ++ more) ≡ codes "#library" ∷ words_of more
unfolding words_from
library_stands more = refl

events_stand : (more : List ℕ) → words_of (codes "#events\n" ++ more) ≡ codes "#events" ∷ words_of more
unfolding words_from
events_stand more = refl

-- ---- what is printed

library_is_printed : (library : ℕ) (more : List ℕ) → words_of (printed_library library ++ more) ≡ library_words library ++ words_of more
library_is_printed library more = elim (library == 0) as (λ t. words_of ((if t then [] else codes "#library " ++ (hex_word library ++ 10 ∷ [])) ++ more)
    ≡ (if t then [] else codes "#library" ∷ hex_word library ∷ []) ++ words_of more) [
      | true ↦ refl
      | false ↦
          let plain = hex_is_plain library in
          library_stands ((hex_word library ++ 10 ∷ []) ++ more)
          ∙ ap (λ x. codes "#library" ∷ words_from false [] x) (append_assoc (hex_word library) (10 ∷ []) more)
          ∙ ap (λ x. codes "#library" ∷ x) (plain_word (hex_word library) [] 10 more plain.0 refl ∙ begun (hex_word library) (words_of more) plain.1)
    ]

checksums_are_printed : (c : Option Checksums) (more : List ℕ) → words_of (printed_checksums c ++ more) ≡ checked_words c ++ words_of more
checksums_are_printed None more = refl
checksums_are_printed (Some c) more =
    let files = in_lines (map hex_word c.files) in
    let library = printed_library c.library in
    let behind : words_of ((files ++ library) ++ more) ≡ (map hex_word c.files ++ library_words c.library) ++ words_of more =
    ap words_of (append_assoc files library more) ∙ laid_words 0 (map hex_word c.files) (library ++ more) (hexes_are_plain c.files)
    ∙ ap (λ x. map hex_word c.files ++ x) (library_is_printed c.library more) ∙ sym (append_assoc (map hex_word c.files) (library_words c.library) (words_of more)) in
    checksums_stand ((files ++ library) ++ more) ∙ ap (λ x. codes "#checksums" ∷ x) behind

pub recording_stands : (recorded : Option Recording) (more : List ℕ) → RecordedFits recorded
    → words_of (printed_recording recorded ++ more) ≡ recording_words recorded ++ words_of more
recording_stands None more fits = refl
recording_stands (Some r) more fits =
    let limits = in_lines (limit_words r.limits) in
    let lengths = in_lines (map decimal r.lengths) in
    let checksums = printed_checksums r.checksums in
    let events = codes "#events\n" in
    let behind = codes "#lengths " ++ (lengths ++ (checksums ++ events)) in
    let checked : words_of ((checksums ++ events) ++ more) ≡ last_words r.checksums ++ words_of more =
    ap words_of (append_assoc checksums events more) ∙ checksums_are_printed r.checksums (events ++ more)
    ∙ ap (λ x. checked_words r.checksums ++ x) (events_stand more) ∙ sym (append_assoc (checked_words r.checksums) (codes "#events" ∷ []) (words_of more)) in
    let last : words_of ((lengths ++ (checksums ++ events)) ++ more) ≡ (map decimal r.lengths ++ last_words r.checksums) ++ words_of more =
    ap words_of (append_assoc lengths (checksums ++ events) more) ∙ laid_words 0 (map decimal r.lengths) ((checksums ++ events) ++ more) (lengths_are_plain r.lengths fits.lengths)
    ∙ ap (λ x. map decimal r.lengths ++ x) checked ∙ sym (append_assoc (map decimal r.lengths) (last_words r.checksums) (words_of more)) in
    let second : words_of (behind ++ more) ≡ codes "#lengths" ∷ ((map decimal r.lengths ++ last_words r.checksums) ++ words_of more) =
    lengths_stand ((lengths ++ (checksums ++ events)) ++ more) ∙ ap (λ x. codes "#lengths" ∷ x) last in
    let first : words_of ((limits ++ behind) ++ more) ≡ limit_words r.limits ++ words_of (behind ++ more) =
    ap words_of (append_assoc limits behind more) ∙ laid_words 0 (limit_words r.limits) (behind ++ more) (limits_are_plain r.limits fits.cells) in
    limits_stand ((limits ++ behind) ++ more)
    ∙ ap (λ x. codes "#limits" ∷ x) (first ∙ ap (λ x. limit_words r.limits ++ x) second
    ∙ sym (append_assoc (limit_words r.limits) (codes "#lengths" ∷ (map decimal r.lengths ++ last_words r.checksums)) (words_of more)))

-- ---- nothing of it is a comment in front

no_slash : (b : ℕ) (bs : List ℕ) → 47 < b → begins_slashes (b ∷ bs) ≡ false
no_slash b [] big = refl
no_slash b (c ∷ bs) big = rw (not_equal b 47 (λ h. omega (arith, big, h))) refl

front_stays : (text : List ℕ) → 47 < get_or text 0 0 → behind_comments false text ≡ text
front_stays [] big = absurd (omega (arith, big))
front_stays (b ∷ bs) big =
    let more : 35 < b = omega (arith, big) in
    let plain = plain_byte b bs (lt-ltb 35 b more) in
    let apart = both_false (is_blank b) (begins_comment (b ∷ bs)) plain in
    front_ends (b ∷ bs) false (omega arith) refl apart.0 (rw (apart.1, no_slash b bs big) refl)
  where
    both_false : (p q : Bool) → (p || q) ≡ false → (p ≡ false) × (q ≡ false)
    both_false true q e = (e, elim (q) as (λ t. t ≡ false) [ true ↦ e | false ↦ refl ])
    both_false false q e = (refl, e)

entry_first : (e : ScheduleEntry) (more : List ℕ) → EntryFits e → 47 < get_or (entry_word e ++ more) 0 0
entry_first e more fits =
    let small : e.event.thread < 2 ^ 64 = omega (arith, fits.thread) in
    let some : 0 < length (decimal e.event.thread) = omega (arith, decimal_nonempty e.event.thread small) in
    let digit = decimal_digits e.event.thread small 0 some in
    let first : get_or (entry_word e ++ more) 0 0 ≡ get_or (decimal e.event.thread) 0 0 =
    ap (λ t. get_or t 0 0) (append_assoc (decimal e.event.thread) (entry_tail e) more) ∙ get_or_append_left (decimal e.event.thread) (entry_tail e ++ more) 0 0 some in
    omega (arith, digit.0, first)

front_of : (recorded : Option Recording) (entries : List ScheduleEntry) → AllByRecursion EntryFits entries
    → behind_comments false (printed_schedule recorded entries) ≡ printed_schedule recorded entries
unfolding behind_comments
front_of (Some r) entries fits = refl
front_of None [] fits = refl
front_of None (e ∷ entries) fits =
    front_stays (in_lines (map entry_word (e ∷ entries))) (entry_first e (gap_after 0 (length (map entry_word entries)) ∷ laid_out 1 (map entry_word entries)) fits.0)

-- nor does it grow
not_growing : (recorded : Option Recording) (entries : List ScheduleEntry) → AllByRecursion EntryFits entries
    → begins_growing (recording_words recorded ++ map entry_word entries) ≡ false
not_growing (Some r) entries fits = refl
not_growing None [] fits = refl
not_growing None (e ∷ entries) fits =
    elim (bytes_eq (entry_word e) (codes "#growing")) as (λ t. bytes_eq (entry_word e) (codes "#growing") ≡ t → t ≡ false) [
      | true ↦ λ is. absurd (no_word ((bytes_eq-Decides (entry_word e) (codes "#growing")).0 is))
      | false ↦ λ is. refl
    ] refl
  where
    no_word : entry_word e ≡ codes "#growing" → ⊥
    no_word same =
        let first : get_or (entry_word e ++ []) 0 0 ≡ 35 = ap (λ w. get_or w 0 0) (append-nil (entry_word e) ∙ same) in
        omega (arith, entry_first e [] fits.0, first)

-- what is printed spells the schedule
pub printed_spells : (recorded : Option Recording) (entries : List ScheduleEntry) → RecordedFits recorded → AreEntries entries
    → SpellsSchedule (printed_schedule recorded entries) recorded entries
printed_spells recorded entries recording_fits fits =
    let words = map entry_word entries in
    let ends : words_of (in_lines words) ≡ words =
    ap words_of (sym (append-nil (in_lines words))) ∙ laid_words 0 words [] (entries_are_plain entries fits.each) ∙ ap (λ x. words ++ x) (no_byte false) ∙ append-nil words in
    record {
      fits = fits;
      recording_fits = recording_fits;
      spelled = plain_text (printed_schedule recorded entries) (recording_words recorded ++ words)
          (ap words_of (front_of recorded entries fits.each) ∙ recording_stands recorded (in_lines words) recording_fits ∙ ap (λ x. recording_words recorded ++ x) ends)
          (not_growing recorded entries fits.each);
    }

-- ---- one more word

pub one_more : {X : Type 0} (f : X → List ℕ) (xs : List X) (k left : ℕ) (x : X) (now new whole : List ℕ) → k < length xs → left ≡ length xs - 1 - k
    → now ++ laid_out k (map f (drop k xs)) ≡ whole → new ≡ now ++ (f (get_or xs k x) ++ gap_after k left ∷ [])
    → new ++ laid_out (k + 1) (map f (drop (k + 1) xs)) ≡ whole
one_more f xs k left x now new whole lt is so_far e =
    let w = f (get_or xs k x) in
    let ws = map f (drop (k + 1) xs) in
    let rest = laid_out (k + 1) ws in
    let count : length ws ≡ left = length-map (drop (k + 1) xs) f ∙ length-drop (k + 1) xs ∙ omega (arith, is) in
    let words : map f (drop k xs) ≡ w ∷ ws = ap (map f) (drop_more xs k x lt) in
    let step : (w ++ gap_after k left ∷ []) ++ rest ≡ laid_out k (map f (drop k xs)) =
    append_assoc w (gap_after k left ∷ []) rest ∙ ap (λ n. w ++ gap_after k n ∷ rest) (sym count) ∙ sym (ap (laid_out k) words) in
    ap (λ t. t ++ rest) e ∙ append_assoc now (w ++ gap_after k left ∷ []) rest ∙ ap (λ t. now ++ t) step ∙ so_far

-- no more words
pub none_left : {X : Type 0} (f : X → List ℕ) (xs : List X) (k : ℕ) (now whole : List ℕ) → k ≡ length xs
    → now ++ laid_out k (map f (drop k xs)) ≡ whole → now ≡ whole
none_left f xs k now whole at so_far =
    let gone : drop k xs ≡ [] = ap (λ j. drop j xs) at ∙ drop-length xs in
    sym (append-nil now) ∙ sym (ap (λ ys. now ++ laid_out k (map f ys)) gone) ∙ so_far

-- ---- parts behind parts

-- five parts, each behind the other
pub five_parts : (x a b c d e n1 n2 n3 n4 n5 : List ℕ) → n1 ≡ x ++ a → n2 ≡ n1 ++ b → n3 ≡ n2 ++ c → n4 ≡ n3 ++ d → n5 ≡ n4 ++ e
    → n5 ≡ x ++ (a ++ (b ++ (c ++ (d ++ e))))
five_parts x a b c d e n1 n2 n3 n4 n5 e1 e2 e3 e4 e5 =
    let two : n2 ≡ x ++ (a ++ b) = e2 ∙ ap (λ n. n ++ b) e1 ∙ append_assoc x a b in
    let three : n3 ≡ x ++ (a ++ (b ++ c)) = e3 ∙ ap (λ n. n ++ c) two ∙ append_assoc x (a ++ b) c ∙ ap (λ y. x ++ y) (append_assoc a b c) in
    let four : n4 ≡ x ++ (a ++ (b ++ (c ++ d))) = e4 ∙ ap (λ n. n ++ d) three ∙ append_assoc x (a ++ (b ++ c)) d ∙ ap (λ y. x ++ y) (append_assoc a (b ++ c) d ∙ ap (λ y. a ++ y) (append_assoc b c d)) in
    e5 ∙ ap (λ n. n ++ e) four ∙ append_assoc x (a ++ (b ++ (c ++ d))) e
    ∙ ap (λ y. x ++ y) (append_assoc a (b ++ (c ++ d)) e ∙ ap (λ y. a ++ y) (append_assoc b (c ++ d) e ∙ ap (λ y. b ++ y) (append_assoc c d e)))

-- six parts
pub six_parts : (x a b c d e f n1 n2 n3 n4 n5 n6 : List ℕ) → n1 ≡ x ++ a → n2 ≡ n1 ++ b → n3 ≡ n2 ++ c → n4 ≡ n3 ++ d → n5 ≡ n4 ++ e → n6 ≡ n5 ++ f
    → n6 ≡ x ++ (a ++ (b ++ (c ++ (d ++ (e ++ f)))))
six_parts x a b c d e f n1 n2 n3 n4 n5 n6 e1 e2 e3 e4 e5 e6 =
    let rest = five_parts n1 b c d e f n2 n3 n4 n5 n6 e2 e3 e4 e5 e6 in
    rest ∙ ap (λ n. n ++ (b ++ (c ++ (d ++ (e ++ f))))) e1 ∙ append_assoc x a (b ++ (c ++ (d ++ (e ++ f))))
