-- A text spells at most one list of entries, and at most one recording.
use Rattle.std.proofs.Common.{◌≡◌, ◌<◌, ◌^◌, ◌+◌, ℕ, List, [], ◌∷◌, ◌++◌, length, map, get_or, refl, sym, ap, subst, ◌∙◌, arith, Option, None, Some, codes, decimal, append_assoc, length-append, inl, inr}
use Rattle.std.specs.List.{AllByRecursion}
use Rattle.std.proofs.lemmas.Fmt.{decimal_injective}
use Rattle.std.proofs.lemmas.List.{append_cancel_left, get_or_append_left, get_or-append-add}
use Rattle.model.specs.Schedule.{AreEntries, EntryFits}
use Rattle.model.specs.declared.event.ScheduleEntry.{ScheduleEntry}
use Rattle.model.specs.declared.limits.Limits.{Limits}
use Rattle.schedule.specs.Files.{CheckedFits, RecordedFits, Recording}
use Rattle.schedule.proofs.schedule_text.ChecksumLaws.{ends_lengths, last_once}
use Rattle.schedule.proofs.schedule_text.EntryLaws.{decimal_digits, form_of, no_heading, same_cons, tail_is_no_digit, word_parts}
use Rattle.schedule.proofs.schedule_text.LengthLaws.{one_way}
use Rattle.schedule.proofs.schedule_text.LimitLaws.{same_limits, same_recording}
use Rattle.schedule.specs.schedule_text.Digits.{HasDigits, IsDigit}
use Rattle.schedule.specs.schedule_text.Text.{SpellsSchedule, entry_tail, entry_word, last_words, limit_words, recording_words}

-- ---- entries

thread_digits : (e : ScheduleEntry) → EntryFits e → HasDigits (entry_word e) (length (decimal e.event.thread))
thread_digits e fits =
    let t = decimal e.event.thread in
    record {
      within = omega (arith, length-append t (entry_tail e));
      digits = λ k. λ lt. subst IsDigit (sym (get_or_append_left t (entry_tail e) 0 k lt)) (decimal_digits e.event.thread (omega (arith, fits.thread)) k lt);
      others = λ _. λ d. tail_is_no_digit e fits (subst IsDigit (ap (λ k. get_or (t ++ entry_tail e) k 0) (end_of (length t)) ∙ get_or-append-add t (entry_tail e) 0 0) d);
    }
  where
    end_of : (n : ℕ) → n ≡ n + 0
    end_of n = omega arith

one_tail : (e f : ScheduleEntry) → EntryFits e → EntryFits f → entry_tail e ≡ entry_tail f
    → (e.event.pick ≡ f.event.pick) × (e.repeat ≡ f.repeat)
one_tail e f x y is = elim (form_of e x) [
  | inl a ↦ elim (form_of f y) [
    | inl b ↦ (a.0 ∙ sym b.0, a.1 ∙ sym b.1)
    | inr o ↦ elim o [
      | inl b ↦ absurd (let h : [] ≡ 46 ∷ decimal f.event.pick = sym a.2 ∙ is ∙ b.2 in cc)
      | inr b ↦ absurd (let h : [] ≡ 42 ∷ decimal f.repeat = sym a.2 ∙ is ∙ b.2 in cc)
    ]
  ]
  | inr p ↦ elim p [
    | inl a ↦ elim (form_of f y) [
      | inl b ↦ absurd (let h : 46 ∷ decimal e.event.pick ≡ [] = sym a.2 ∙ is ∙ b.2 in cc)
      | inr o ↦ elim o [
        | inl b ↦
            let h = same_cons 46 46 (decimal e.event.pick) (decimal f.event.pick) (sym a.2 ∙ is ∙ b.2) in
            (decimal_injective e.event.pick f.event.pick (omega (arith, x.pick)) (omega (arith, y.pick)) h.1, a.1 ∙ sym b.1)
        | inr b ↦
            let h = same_cons 46 42 (decimal e.event.pick) (decimal f.repeat) (sym a.2 ∙ is ∙ b.2) in
            absurd (omega (arith, h.0))
      ]
    ]
    | inr a ↦ elim (form_of f y) [
      | inl b ↦ absurd (let h : 42 ∷ decimal e.repeat ≡ [] = sym a.2 ∙ is ∙ b.2 in cc)
      | inr o ↦ elim o [
        | inl b ↦
            let h = same_cons 42 46 (decimal e.repeat) (decimal f.event.pick) (sym a.2 ∙ is ∙ b.2) in
            absurd (omega (arith, h.0))
        | inr b ↦
            let h = same_cons 42 42 (decimal e.repeat) (decimal f.repeat) (sym a.2 ∙ is ∙ b.2) in
            (a.0 ∙ sym b.0, decimal_injective e.repeat f.repeat (omega (arith, x.repeat.1)) (omega (arith, y.repeat.1)) h.1)
      ]
    ]
  ]
]

same_entry : (e f : ScheduleEntry) → e.event.thread ≡ f.event.thread → e.event.pick ≡ f.event.pick → e.repeat ≡ f.repeat → e ≡ f
same_entry e f t p r =
    ap (λ (x : ℕ). record { event = record { thread = x; pick = e.event.pick }; repeat = e.repeat }) t
    ∙ ap (λ (x : ℕ). record { event = record { thread = f.event.thread; pick = x }; repeat = e.repeat }) p
    ∙ ap (λ (x : ℕ). record { event = f.event; repeat = x }) r

one_entry : (e f : ScheduleEntry) → EntryFits e → EntryFits f → entry_word e ≡ entry_word f → e ≡ f
one_entry e f x y is =
    let n = length (decimal e.event.thread) in
    let a = word_parts (entry_word e) n e x (thread_digits e x) refl in
    let b = word_parts (entry_word e) n f y (thread_digits e x) is in
    let thread = decimal_injective e.event.thread f.event.thread (omega (arith, x.thread)) (omega (arith, y.thread)) (sym a.0 ∙ b.0) in
    let tail = one_tail e f x y (sym a.1 ∙ b.1) in
    same_entry e f thread tail.0 tail.1

one_list : (es fs : List ScheduleEntry) → AllByRecursion EntryFits es → AllByRecursion EntryFits fs → map entry_word es ≡ map entry_word fs
    → es ≡ fs
one_list [] [] a b is = refl
one_list [] (f ∷ fs) a b is = absurd cc
one_list (e ∷ es) [] a b is = absurd cc
one_list (e ∷ es) (f ∷ fs) a b is =
    let h = same_cons (entry_word e) (entry_word f) (map entry_word es) (map entry_word fs) is in
    ap (λ x. x ∷ es) (one_entry e f a.0 b.0 h.0) ∙ ap (λ x. f ∷ x) (one_list es fs a.1 b.1 h.1)

-- ---- recordings

one_number : (name : List ℕ) (m n : ℕ) → m < 2 ^ 64 → n < 2 ^ 64 → name ++ decimal m ≡ name ++ decimal n → m ≡ n
one_number name m n a b is = decimal_injective m n a b (append_cancel_left name (decimal m) (decimal n) is)

one_limits : (k l : Limits) (rest more : List (List ℕ)) → k.cells < 2 ^ 32 → l.cells < 2 ^ 32
    → limit_words k ++ rest ≡ limit_words l ++ more → (k ≡ l) × (rest ≡ more)
one_limits k l rest more a b is =
    let objects = same_cons (codes "objects=" ++ decimal k.objects) (codes "objects=" ++ decimal l.objects) _ _ is in
    let cells = same_cons (codes "cells=" ++ decimal k.cells) (codes "cells=" ++ decimal l.cells) _ _ objects.1 in
    let monitors = same_cons (codes "monitors=" ++ decimal k.monitors) (codes "monitors=" ++ decimal l.monitors) _ _ cells.1 in
    let threads = same_cons (codes "threads=" ++ decimal k.threads) (codes "threads=" ++ decimal l.threads) _ _ monitors.1 in
    let frames = same_cons (codes "frames=" ++ decimal k.frames) (codes "frames=" ++ decimal l.frames) rest more threads.1 in (
      same_limits k l
          (one_number (codes "objects=") k.objects l.objects (omega (arith, k.objects_fit)) (omega (arith, l.objects_fit)) objects.0)
          (one_number (codes "cells=") k.cells l.cells (omega (arith, a)) (omega (arith, b)) cells.0)
          (one_number (codes "monitors=") k.monitors l.monitors (omega (arith, k.monitors_fit)) (omega (arith, l.monitors_fit)) monitors.0)
          (one_number (codes "threads=") k.threads l.threads (omega (arith, k.threads_fit.1)) (omega (arith, l.threads_fit.1)) threads.0)
          (one_number (codes "frames=") k.frames l.frames (omega (arith, k.frames_fit.1)) (omega (arith, l.frames_fit.1)) frames.0),
      frames.1,
    )

-- what stands behind the limits
abbrev behind : Recording → List (List ℕ) → List (List ℕ)
behind r rest = codes "#lengths" ∷ (map decimal r.lengths ++ (last_words r.checksums ++ rest))

regroup : (r : Recording) (rest : List (List ℕ))
    → (limit_words r.limits ++ codes "#lengths" ∷ (map decimal r.lengths ++ last_words r.checksums)) ++ rest ≡ limit_words r.limits ++ behind r rest
regroup r rest =
    append_assoc (limit_words r.limits) (codes "#lengths" ∷ (map decimal r.lengths ++ last_words r.checksums)) rest
    ∙ ap (λ ws. limit_words r.limits ++ codes "#lengths" ∷ ws) (append_assoc (map decimal r.lengths) (last_words r.checksums) rest)

one_schedule : (p q : Option Recording) (es fs : List ScheduleEntry) → RecordedFits p → RecordedFits q → AreEntries es → AreEntries fs
    → recording_words p ++ map entry_word es ≡ recording_words q ++ map entry_word fs → (p ≡ q) × (es ≡ fs)
one_schedule None None es fs x y a b is = (refl, one_list es fs a.each b.each is)
one_schedule None (Some q) es fs x y a b is = absurd (no_heading _ es a.each is)
one_schedule (Some p) None es fs x y a b is = absurd (no_heading _ fs b.each (sym is))
one_schedule (Some p) (Some q) es fs x y a b is =
    let first = same_cons (codes "#limits") (codes "#limits") _ _ is in
    let left = map entry_word es in
    let right = map entry_word fs in
    let limits = one_limits p.limits q.limits (behind p left) (behind q right) x.cells y.cells (sym (regroup p left) ∙ first.1 ∙ regroup q right) in
    let second = same_cons (codes "#lengths") (codes "#lengths") _ _ limits.1 in
    let lengths = one_way p.lengths q.lengths (last_words p.checksums ++ left) (last_words q.checksums ++ right) x.lengths y.lengths
    (ends_lengths p.checksums left) (ends_lengths q.checksums right) second.1 in
    let last = last_once (length p.lengths) p.checksums q.checksums left right x.checksums
    (subst (λ n. CheckedFits n q.checksums) (ap length (sym lengths.0)) y.checksums) lengths.1 in
    (ap Some (same_recording p q limits.0 lengths.0 last.0), one_list es fs a.each b.each last.1)

pub spelled_once : (text : List ℕ) (p q : Option Recording) (es fs : List ScheduleEntry) → SpellsSchedule text p es
    → SpellsSchedule text q fs → (p ≡ q) × (es ≡ fs)
spelled_once text p q es fs a b = one_schedule p q es fs a.recording_fits b.recording_fits a.fits b.fits (sym a.spelled ∙ b.spelled)
