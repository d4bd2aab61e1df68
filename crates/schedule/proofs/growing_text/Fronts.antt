-- Fronts of texts that grow.
use Rattle.std.proofs.Common.{◌≡◌, ◌<◌, ◌≤◌, ◌+◌, ◌-◌, ◌^◌, ℕ, zero, suc, true, false, List, [], ◌∷◌, ◌++◌, length, map, take, drop, refl, sym, ap, subst, ◌∙◌, arith, append_assoc, decimal, codes, Option, Some, None, inl, inr}
use Rattle.std.specs.Prelude.{◌||◌, nat_lt, if◌then◌else◌}
use Rattle.std.specs.List.{AllByRecursion, flat_map}
use Rattle.std.proofs.Math.Nat.{min-le_right}
use Rattle.std.proofs.lemmas.Bool.{cases_lt}
use Rattle.std.proofs.Math.Seq.{take-append-add, take-length}
use Rattle.std.proofs.lemmas.Grind.{flat_map-append}
use Rattle.std.proofs.lemmas.List.{length-map, length-take, map-append, take-append-drop, take-append-le, take-map}
use Rattle.model.specs.declared.event.Event.{Event}
use Rattle.model.specs.declared.event.ScheduleEntry.{ScheduleEntry}
use Rattle.model.specs.Schedule.{EntryFits, events_of}
use Rattle.schedule.specs.Files.{RecordedFits, Recording}
use Rattle.schedule.specs.Joined.{AreRuns}
use Rattle.schedule.specs.growing_text.Growing.{HasGrown, SpellsFront, growing_front, part_text}
use Rattle.schedule.specs.schedule_text.Printing.{gap_after, in_lines, laid_out, printed_checksums, printed_recording}
use Rattle.schedule.specs.schedule_text.Text.{SpellsSchedule, behind_comments, begins_growing, entry_word, has_blank, is_blank, limit_words, recording_words, schedule_words, text_words, up_to_blank, words_from, words_of}
use Rattle.schedule.proofs.recorded_events.Runs.{fewer}
use Rattle.schedule.proofs.schedule_text.GrowingLaws.{blank_within, no_blank}
use Rattle.schedule.proofs.schedule_text.WordLaws.{begun, both_false, no_byte}
use Rattle.schedule.proofs.schedule_text.WriteLaws.{IsPlainWord, both_true, entries_are_plain, gap_is_blank, is_plain, plain_byte, plain_word, recording_stands}

-- ---- words, each with a byte behind it

abbrev spread : List (List ℕ × ℕ) → List ℕ
spread [] = []
spread (p ∷ ps) = p.0 ++ p.1 ∷ spread ps

abbrev Stands : List ℕ × ℕ → Type 0
Stands p = IsPlainWord p.0 × (is_blank p.1 ≡ true)

abbrev words_in : List (List ℕ × ℕ) → List (List ℕ)
words_in ps = map (λ p. p.0) ps

plain_has_none : (w : List ℕ) → is_plain w ≡ true → has_blank w ≡ false
plain_has_none [] e = refl
plain_has_none (b ∷ bs) e =
    let q = both_true (nat_lt 35 b) (is_plain bs) e in
    ap (λ t. t || has_blank bs) (both_false _ _ (plain_byte b bs q.0)).0 ∙ plain_has_none bs q.1

plain_take : (n : ℕ) (w : List ℕ) → is_plain w ≡ true → is_plain (take n w) ≡ true
plain_take zero w e = refl
plain_take (suc n) [] e = refl
plain_take (suc n) (b ∷ bs) e =
    let q = both_true (nat_lt 35 b) (is_plain bs) e in
    rw (q.0, plain_take n bs q.1) refl

-- what stands in front of white space stays
kept_front : (xs : List ℕ) (g : ℕ) (ys : List ℕ) → is_blank g ≡ true → up_to_blank (xs ++ g ∷ ys) ≡ xs ++ g ∷ up_to_blank ys
kept_front [] g ys is = ap (λ t. if t then g ∷ up_to_blank ys else []) (blank_within [] g ys is)
kept_front (x ∷ xs) g ys is =
    ap (λ t. if t then x ∷ up_to_blank (xs ++ g ∷ ys) else []) (blank_within (x ∷ xs) g ys is) ∙ ap (λ l. x ∷ l) (kept_front xs g ys is)

nothing : (n : ℕ) → up_to_blank (take n []) ≡ []
nothing zero = refl
nothing (suc n) = refl

-- A front of them has some of the words whole, and nothing behind these but the last one's beginning.
cut : (ps : List (List ℕ × ℕ)) → AllByRecursion Stands ps → (n : ℕ) → (k : ℕ) × (up_to_blank (take n (spread ps)) ≡ spread (take k ps))
cut [] all n = (0, nothing n)
cut (p ∷ ps) all n = elim (cases_lt (length p.0) n) [
  | inr few ↦ (
    0,
    ap up_to_blank (take-append-le n p.0 (p.1 ∷ spread ps) (omega (arith, few))) ∙ no_blank (take n p.0) (plain_has_none (take n p.0) (plain_take n p.0 all.0.0.0)),
  )
  | inl lt ↦
      let m = n - suc (length p.0) in
      let r = cut ps all.1 m in
      let count : n ≡ length p.0 + suc m = omega (arith, lt) in (
        suc r.0,
        ap up_to_blank (ap (λ j. take j (p.0 ++ p.1 ∷ spread ps)) count ∙ take-append-add p.0 (p.1 ∷ spread ps) (suc m))
            ∙ kept_front p.0 p.1 (take m (spread ps)) all.0.1 ∙ ap (λ x. p.0 ++ p.1 ∷ x) r.1,
      )
]

words_of_spread : (ps : List (List ℕ × ℕ)) → AllByRecursion Stands ps → words_of (spread ps) ≡ words_in ps
words_of_spread [] all = no_byte false
words_of_spread (p ∷ ps) all =
    plain_word p.0 [] p.1 (spread ps) all.0.0.0 all.0.1 ∙ begun p.0 (words_of (spread ps)) all.0.0.1 ∙ ap (λ x. p.0 ∷ x) (words_of_spread ps all.1)

all_taken : {A : Type 0} (P : A → Type 0) (k : ℕ) (xs : List A) → AllByRecursion P xs → AllByRecursion P (take k xs)
all_taken P zero xs all = tt
all_taken P (suc k) [] all = tt
all_taken P (suc k) (x ∷ xs) all = (all.0, all_taken P k xs all.1)

all_together : {A : Type 0} (P : A → Type 0) (xs ys : List A) → AllByRecursion P xs → AllByRecursion P ys → AllByRecursion P (xs ++ ys)
all_together P [] ys a b = b
all_together P (x ∷ xs) ys a b = (a.0, all_together P xs ys a.1 b)

spread-append : (ps qs : List (List ℕ × ℕ)) → spread (ps ++ qs) ≡ spread ps ++ spread qs
spread-append [] qs = refl
spread-append (p ∷ ps) qs = ap (λ x. p.0 ++ p.1 ∷ x) (spread-append ps qs) ∙ sym (append_assoc p.0 (p.1 ∷ spread ps) (spread qs))

-- ---- those of entries that are laid out

abbrev with_gaps : ℕ → List (List ℕ) → List (List ℕ × ℕ)
with_gaps place [] = []
with_gaps place (w ∷ ws) = (w, gap_after place (length ws)) ∷ with_gaps (place + 1) ws

are_laid_out : (place : ℕ) (ws : List (List ℕ)) → laid_out place ws ≡ spread (with_gaps place ws)
are_laid_out place [] = refl
are_laid_out place (w ∷ ws) = ap (λ x. w ++ gap_after place (length ws) ∷ x) (are_laid_out (place + 1) ws)

are_words : (place : ℕ) (ws : List (List ℕ)) → words_in (with_gaps place ws) ≡ ws
are_words place [] = refl
are_words place (w ∷ ws) = ap (λ x. w ∷ x) (are_words (place + 1) ws)

they_stand : (place : ℕ) (ws : List (List ℕ)) → AllByRecursion IsPlainWord ws → AllByRecursion Stands (with_gaps place ws)
they_stand place [] all = tt
they_stand place (w ∷ ws) all = ((all.0, gap_is_blank place (length ws)), they_stand (place + 1) ws all.1)

-- ---- those of parts

abbrev entries_in : List (List ScheduleEntry) → List ScheduleEntry
entries_in parts = flat_map (λ part. part) parts

abbrev pairs_of : List (List ScheduleEntry) → List (List ℕ × ℕ)
pairs_of parts = flat_map (λ part. with_gaps 0 (map entry_word part)) parts

parts_are_spread : (parts : List (List ScheduleEntry)) → flat_map part_text parts ≡ spread (pairs_of parts)
parts_are_spread [] = refl
parts_are_spread (part ∷ parts) =
    let ps = with_gaps 0 (map entry_word part) in
    ap (λ x. x ++ flat_map part_text parts) (are_laid_out 0 (map entry_word part)) ∙ ap (λ x. spread ps ++ x) (parts_are_spread parts)
    ∙ sym (spread-append ps (pairs_of parts))

words_of_parts : (parts : List (List ScheduleEntry)) → words_in (pairs_of parts) ≡ map entry_word (entries_in parts)
words_of_parts [] = refl
words_of_parts (part ∷ parts) =
    let ps = with_gaps 0 (map entry_word part) in
    map-append (λ p. p.0) ps (pairs_of parts) ∙ ap (λ x. x ++ words_in (pairs_of parts)) (are_words 0 (map entry_word part))
    ∙ ap (λ x. map entry_word part ++ x) (words_of_parts parts) ∙ sym (map-append entry_word part (entries_in parts))

pairs_stand : (parts : List (List ScheduleEntry)) → AllByRecursion AreRuns parts → AllByRecursion Stands (pairs_of parts)
pairs_stand [] all = tt
pairs_stand (part ∷ parts) all =
    all_together Stands (with_gaps 0 (map entry_word part)) (pairs_of parts)
    (they_stand 0 (map entry_word part) (entries_are_plain part all.0.each)) (pairs_stand parts all.1)

entries_fit : (parts : List (List ScheduleEntry)) → AllByRecursion AreRuns parts → AllByRecursion EntryFits (entries_in parts)
entries_fit [] all = tt
entries_fit (part ∷ parts) all = all_together EntryFits part (entries_in parts) all.0.each (entries_fit parts all.1)

events_of_parts : (parts : List (List ScheduleEntry)) → flat_map events_of parts ≡ events_of (entries_in parts)
events_of_parts [] = refl
events_of_parts (part ∷ parts) =
    ap (λ x. events_of part ++ x) (events_of_parts parts) ∙ sym (flat_map-append _ part (entries_in parts))

-- ---- what stands in front

-- it ends in white space
abbrev EndsBlank : List ℕ → Type 0
EndsBlank bytes = (before : List ℕ) × (g : ℕ) × (bytes ≡ before ++ g ∷ []) × (is_blank g ≡ true)

ends_behind : (xs ys : List ℕ) → EndsBlank ys → EndsBlank (xs ++ ys)
ends_behind xs ys ends =
    (xs ++ ends.0, ends.1, ap (λ x. xs ++ x) ends.2 ∙ sym (append_assoc xs ends.0 (ends.1 ∷ [])), ends.3)

kept_all : (bytes more : List ℕ) → EndsBlank bytes → up_to_blank (bytes ++ more) ≡ bytes ++ up_to_blank more
kept_all bytes more ends =
    ap (λ b. up_to_blank (b ++ more)) ends.2 ∙ ap up_to_blank (append_assoc ends.0 (ends.1 ∷ []) more) ∙ kept_front ends.0 ends.1 more ends.3
    ∙ sym (append_assoc ends.0 (ends.1 ∷ []) (up_to_blank more)) ∙ ap (λ b. b ++ up_to_blank more) (sym ends.2)

front_ends : (recorded : Option Recording) → EndsBlank (growing_front recorded)
front_ends None = (codes "#growing", 10, refl, refl)
front_ends (Some r) =
    let last : EndsBlank (codes "#events\n") = (codes "#events", 10, refl, refl) in
    let checked = ends_behind (printed_checksums r.checksums) (codes "#events\n") last in
    let lengths = ends_behind (in_lines (map decimal r.lengths)) (printed_checksums r.checksums ++ codes "#events\n") checked in
    let named = ends_behind (codes "#lengths ") (in_lines (map decimal r.lengths) ++ (printed_checksums r.checksums ++ codes "#events\n")) lengths in
    let limits = ends_behind (in_lines (limit_words r.limits))
    (codes "#lengths " ++ (in_lines (map decimal r.lengths) ++ (printed_checksums r.checksums ++ codes "#events\n"))) named in
    let recording = ends_behind (codes "#limits ")
    (in_lines (limit_words r.limits)
    ++ (codes "#lengths " ++ (in_lines (map decimal r.lengths) ++ (printed_checksums r.checksums ++ codes "#events\n")))) limits in
    ends_behind (codes "#growing\n") (printed_recording (Some r)) recording

growing_stands : (more : List ℕ) → text_words (codes "#growing\n" ++ more) ≡ codes "#growing" ∷ words_of more
unfolding words_from behind_comments
growing_stands more = refl

front_stands : (recorded : Option Recording) (more : List ℕ) → RecordedFits recorded
    → text_words (growing_front recorded ++ more) ≡ codes "#growing" ∷ (recording_words recorded ++ words_of more)
front_stands recorded more fits =
    ap text_words (append_assoc (codes "#growing\n") (printed_recording recorded) more) ∙ growing_stands (printed_recording recorded ++ more)
    ∙ ap (λ x. codes "#growing" ∷ x) (recording_stands recorded more fits)

-- the words of such a text, behind whatever byte it ends
words_of_front : (recorded : Option Recording) (text : List ℕ) → RecordedFits recorded
    → schedule_words (growing_front recorded ++ text) ≡ recording_words recorded ++ words_of (up_to_blank text)
words_of_front recorded text fits =
    let front = growing_front recorded in
    ap (λ ws. if begins_growing ws then drop 1 (text_words (up_to_blank (front ++ text))) else ws) (front_stands recorded text fits)
    ∙ ap (λ t. drop 1 (text_words t)) (kept_all front text (front_ends recorded)) ∙ ap (drop 1) (front_stands recorded (up_to_blank text) fits)

-- ---- the whole

spells_some : (recorded : Option Recording) (parts : List (List ScheduleEntry)) (more : List ℕ) (k : ℕ) → RecordedFits recorded
    → AllByRecursion AreRuns parts → length (flat_map events_of parts) < 2 ^ 32 → up_to_blank more ≡ spread (take k (pairs_of parts))
    → SpellsSchedule (growing_front recorded ++ more) recorded (take k (entries_in parts))
spells_some recorded parts more k recording_fits joined few is =
    let entries = entries_in parts in
    let fit = entries_fit parts joined in
    let count : length entries < 2 ^ 32 = omega (arith, fewer entries fit, few, ap length (events_of_parts parts)) in
    let words : words_of (up_to_blank more) ≡ map entry_word (take k entries) =
    ap words_of is ∙ words_of_spread (take k (pairs_of parts)) (all_taken Stands k (pairs_of parts) (pairs_stand parts joined))
    ∙ sym (take-map (λ p. p.0) k (pairs_of parts)) ∙ ap (take k) (words_of_parts parts) ∙ take-map entry_word k entries in
    record {
      fits = record { count = omega (arith, length-take k entries, count, min-le_right k (length entries)); each = all_taken EntryFits k entries fit };
      recording_fits = recording_fits;
      spelled = words_of_front recorded more recording_fits ∙ ap (λ x. recording_words recorded ++ x) words;
    }

pub fronts_spell : (text : List ℕ) (recorded : Option Recording) (events : List Event) → HasGrown text recorded events
    → (n : ℕ) → length (growing_front recorded) ≤ n → SpellsFront (take n text) recorded events
fronts_spell text recorded events grown n some =
    let front = growing_front recorded in
    let parts = grown.parts in
    let entries = entries_in parts in
    let m = n - length front in
    let count : n ≡ length front + m = omega (arith, some) in
    let written : flat_map part_text parts ≡ spread (pairs_of parts) = parts_are_spread parts in
    let here : take n text ≡ front ++ take m (spread (pairs_of parts)) =
    ap (take n) (grown.text_is ∙ ap (λ x. front ++ x) written) ∙ ap (λ j. take j (front ++ spread (pairs_of parts))) count
    ∙ take-append-add front (spread (pairs_of parts)) m in
    let c = cut (pairs_of parts) (pairs_stand parts grown.joined) m in
    let few : length (flat_map events_of parts) < 2 ^ 32 = omega (arith, grown.few, ap length grown.are) in
    record {
      entries = take c.0 entries;
      spells = subst (λ t. SpellsSchedule t recorded (take c.0 entries)) (sym here)
          (spells_some recorded parts (take m (spread (pairs_of parts))) c.0 grown.recording_fits grown.joined few c.1);
      others = events_of (drop c.0 entries);
      front = grown.are ∙ events_of_parts parts ∙ ap events_of (sym (take-append-drop c.0 entries))
          ∙ flat_map-append _ (take c.0 entries) (drop c.0 entries);
    }

all_kept : (ps : List (List ℕ × ℕ)) → AllByRecursion Stands ps → up_to_blank (spread ps) ≡ spread ps
all_kept [] all = refl
all_kept (p ∷ ps) all = kept_front p.0 p.1 (spread ps) all.0.1 ∙ ap (λ x. p.0 ++ p.1 ∷ x) (all_kept ps all.1)

same_count : (parts : List (List ScheduleEntry)) → length (pairs_of parts) ≡ length (entries_in parts)
same_count parts = sym (length-map (pairs_of parts) (λ p. p.0)) ∙ ap length (words_of_parts parts) ∙ length-map (entries_in parts) entry_word

pub texts_spell : (text : List ℕ) (recorded : Option Recording) (events : List Event) → HasGrown text recorded events
    → (entries : List ScheduleEntry) × SpellsSchedule text recorded entries × (events_of entries ≡ events)
texts_spell text recorded events grown =
    let front = growing_front recorded in
    let parts = grown.parts in
    let entries = entries_in parts in
    let ps = pairs_of parts in
    let k = length ps in
    let few : length (flat_map events_of parts) < 2 ^ 32 = omega (arith, grown.few, ap length grown.are) in
    let kept : up_to_blank (spread ps) ≡ spread (take k ps) = all_kept ps (pairs_stand parts grown.joined) ∙ ap spread (sym (take-length ps)) in
    let all : take k entries ≡ entries = ap (λ j. take j entries) (same_count parts) ∙ take-length entries in
    let here : text ≡ front ++ spread ps = grown.text_is ∙ ap (λ x. front ++ x) (parts_are_spread parts) in (
      entries,
      subst (λ t. SpellsSchedule t recorded entries) (sym here)
          (subst (SpellsSchedule (front ++ spread ps) recorded) all (spells_some recorded parts (spread ps) k grown.recording_fits grown.joined few kept)),
      sym (grown.are ∙ events_of_parts parts),
    )
