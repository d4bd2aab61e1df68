-- What is written at a time.
use Rattle.std.proofs.Common.{◌≡◌, ◌<◌, ◌≤◌, ◌+◌, ◌-◌, ◌^◌, ℕ, zero, suc, List, [], ◌∷◌, ◌++◌, length, take, drop, get_or, replicate, sym, ap, subst, ◌∙◌, arith, append_assoc, length-append, Some, inl, inr}
use Rattle.std.specs.Prelude.{slice_get}
use Rattle.std.specs.List.{AllByRecursion, flat_map}
use Rattle.std.proofs.Math.Seq.{drop-append_seam, drop-length}
use Rattle.std.proofs.lemmas.Bool.{cases_lt}
use Rattle.std.proofs.lemmas.Grind.{flat_map-append}
use Rattle.std.proofs.lemmas.List.{append-nil, drop_more, length-replicate, replicate-append-replicate, take-append-drop, take_all}
use Rattle.std.proofs.lemmas.Option.{get_or_from_slice_get, slice_get_within}
use Rattle.model.specs.declared.event.Event.{Event}
use Rattle.model.specs.declared.event.ScheduleEntry.{ScheduleEntry}
use Rattle.model.specs.Schedule.{EntryFits, events_of}
use Rattle.schedule.specs.Joined.{AreJoined, AreRuns, CanTake}
use Rattle.schedule.specs.growing_text.Growing.{GrowsBy, growing_front, part_text}
use Rattle.schedule.specs.growing_text.Seams.{IsSeam}

abbrev pub no_entry : ScheduleEntry
no_entry = record { event = record { thread = 0; pick = 0 }; repeat = 0 }

-- ---- entries from a place on

from_place : (xs : List ScheduleEntry) (k : ℕ) (e : ScheduleEntry) → slice_get xs k ≡ Some e → drop k xs ≡ e ∷ drop (k + 1) xs
from_place xs k e is =
    drop_more xs k e (slice_get_within xs k e is) ∙ ap (λ x. x ∷ drop (k + 1) xs) (get_or_from_slice_get xs k e e is)

-- how many events are those of an entry and of the ones behind it
pub one_more : (xs : List ScheduleEntry) (k : ℕ) (e : ScheduleEntry) → slice_get xs k ≡ Some e
    → length (events_of (drop k xs)) ≡ e.repeat + length (events_of (drop (k + 1) xs))
one_more xs k e is =
    let split = from_place xs k e is in
    ap (λ l. length (events_of l)) split ∙ length-append (replicate e.repeat e.event) (events_of (drop (k + 1) xs))
    ∙ ap (λ n. n + length (events_of (drop (k + 1) xs))) (length-replicate e.repeat e.event)

each_behind : (k : ℕ) (xs : List ScheduleEntry) → AllByRecursion EntryFits xs → AllByRecursion EntryFits (drop k xs)
each_behind zero xs all = all
each_behind (suc k) [] all = all
each_behind (suc k) (x ∷ xs) all = each_behind k xs all.1

joined_tail : (x : ScheduleEntry) (xs : List ScheduleEntry) → AreJoined (x ∷ xs) → AreJoined xs
joined_tail x [] joined = tt
joined_tail x (y ∷ ys) joined = joined.1

joined_behind : (k : ℕ) (xs : List ScheduleEntry) → AreJoined xs → AreJoined (drop k xs)
joined_behind zero xs joined = joined
joined_behind (suc k) [] joined = joined
joined_behind (suc k) (x ∷ xs) joined = joined_behind k xs (joined_tail x xs joined)

-- ---- the last events

all_events : (xs : List ScheduleEntry) (k : ℕ) → events_of xs ≡ events_of (take k xs) ++ events_of (drop k xs)
all_events xs k = ap events_of (sym (take-append-drop k xs)) ∙ flat_map-append _ (take k xs) (drop k xs)

behind : {A : Type 0} (xs ys : List A) (n : ℕ) → n ≡ length ys → drop (length (xs ++ ys) - n) (xs ++ ys) ≡ ys
behind xs ys n is =
    ap (λ k. drop k (xs ++ ys)) (omega (arith, length-append xs ys, is)) ∙ drop-append_seam xs ys

-- all from a place on
pub from_seam : (xs : List ScheduleEntry) (last at : ℕ) → length (events_of (drop at xs)) ≡ last
    → events_of (drop at xs) ≡ drop (length (events_of xs) - last) (events_of xs)
from_seam xs last at count =
    sym (behind (events_of (take at xs)) (events_of (drop at xs)) last (sym count))
    ∙ sym (ap (λ l. drop (length l - last) l) (all_events xs at))

parted : (n left : ℕ) (event : Event) → left ≤ n → replicate n event ≡ replicate (n - left) event ++ replicate left event
parted n left event le = ap (λ k. replicate k event) (omega (arith, le)) ∙ sym (replicate-append-replicate (n - left) left event)

-- and some of the entry before
pub within_seam : (xs : List ScheduleEntry) (last k left : ℕ) (e : ScheduleEntry) → slice_get xs k ≡ Some e → left ≤ e.repeat
    → left + length (events_of (drop (k + 1) xs)) ≡ last
    → replicate left e.event ++ events_of (drop (k + 1) xs) ≡ drop (length (events_of xs) - last) (events_of xs)
within_seam xs last k left e is le count =
    let others = events_of (drop (k + 1) xs) in
    let front = events_of (take k xs) ++ replicate (e.repeat - left) e.event in
    let mine = replicate left e.event ++ others in
    let all : events_of xs ≡ front ++ mine =
    all_events xs k ∙ ap (λ l. events_of (take k xs) ++ events_of l) (from_place xs k e is)
    ∙ ap (λ l. events_of (take k xs) ++ (l ++ others)) (parted e.repeat left e.event le)
    ∙ ap (λ l. events_of (take k xs) ++ l) (append_assoc (replicate (e.repeat - left) e.event) (replicate left e.event) others)
    ∙ sym (append_assoc (events_of (take k xs)) (replicate (e.repeat - left) e.event) mine) in
    let long : last ≡ length mine =
    omega (arith, count, length-append (replicate left e.event) others, length-replicate left e.event) in
    sym (behind front mine last long) ∙ sym (ap (λ l. drop (length l - last) l) all)

-- ---- what is written

some_of : (e : ScheduleEntry) (left : ℕ) → EntryFits e → 0 < left → left ≤ e.repeat
    → EntryFits (record { event = e.event; repeat = left })
some_of e left fits some le = record {
  thread = fits.thread;
  pick = fits.pick;
  repeat = (omega (arith, some), omega (arith, le, fits.repeat.1));
  alone = λ more. fits.alone (omega (arith, more, le));
}

joined_before : (e : ScheduleEntry) (left : ℕ) (others : List ScheduleEntry) → AreJoined (e ∷ others) → AllByRecursion EntryFits others
    → e.repeat + length (events_of others) < 2 ^ 32 → AreJoined (record { event = e.event; repeat = left } ∷ others)
joined_before e left [] joined fits few = tt
joined_before e left (second ∷ others) joined fits few = (
  (λ (can : CanTake (record { event = e.event; repeat = left }) second.event). joined.0 (record {
    same = can.same;
    plain = can.plain;
    room = omega (arith, few, fits.0.repeat.0, length-append (replicate second.repeat second.event) (events_of others), length-replicate second.repeat second.event);
  })),
  joined.1,
)

pub runs_from : (xs : List ScheduleEntry) (at : ℕ) → AreRuns xs → AreRuns (drop at xs)
runs_from xs at runs = record { each = each_behind at xs runs.each; joined = joined_behind at xs runs.joined }

pub runs_within : (xs : List ScheduleEntry) (k left : ℕ) (e : ScheduleEntry) → AreRuns xs → length (events_of xs) < 2 ^ 32
    → slice_get xs k ≡ Some e → 0 < left → left ≤ e.repeat
    → AreRuns (record { event = e.event; repeat = left } ∷ drop (k + 1) xs)
runs_within xs k left e runs few is some le =
    let others = drop (k + 1) xs in
    let here : AreRuns (e ∷ others) = subst AreRuns (from_place xs k e is) (runs_from xs k runs) in
    let count : e.repeat + length (events_of others) < 2 ^ 32 =
    omega (arith, few, one_more xs k e is, ap length (all_events xs k), length-append (events_of (take k xs)) (events_of (drop k xs))) in
    record {
      each = (some_of e left here.each.0 some le, here.each.1);
      joined = joined_before e left others here.joined here.each.1 count;
    }

-- ---- behind a seam

module _ (xs : List ScheduleEntry) (last at left : ℕ) (seam : IsSeam xs last at left) (items : List ScheduleEntry) where
  module _ (none : left ≤ 0) (are : items ≡ drop at xs) where
    count_is : length (events_of (drop at xs)) ≡ last
    count_is = omega (arith, seam.count, none)

    pub last_from : events_of items ≡ drop (length (events_of xs) - last) (events_of xs)
    last_from = ap events_of are ∙ from_seam xs last at count_is

    pub joined_from : AreRuns xs → AreRuns items
    joined_from runs = subst AreRuns (sym are) (runs_from xs at runs)

  module _ (some : 0 < left) (d : ScheduleEntry) (are : items ≡ record { event = (get_or xs (at - 1) d).event; repeat = left } ∷ drop at xs) where
    abbrev e : ScheduleEntry
    e = (seam.before some).0

    abbrev k : ℕ
    k = at - 1

    is : slice_get xs k ≡ Some e
    is = (seam.before some).1

    le : left ≤ e.repeat
    le = (seam.before some).2

    next : at ≡ k + 1
    next = omega (arith, (seam.before some).3)

    split : items ≡ record { event = e.event; repeat = left } ∷ drop (k + 1) xs
    split =
        are ∙ ap (λ (x : ScheduleEntry). record { event = x.event; repeat = left } ∷ drop at xs) (get_or_from_slice_get xs k e d is)
        ∙ ap (λ j. record { event = e.event; repeat = left } ∷ drop j xs) next

    pub last_within : events_of items ≡ drop (length (events_of xs) - last) (events_of xs)
    last_within =
        ap events_of split ∙ within_seam xs last k left e is le (subst (λ j. left + length (events_of (drop j xs)) ≡ last) next seam.count)

    pub joined_within : AreRuns xs → length (events_of xs) < 2 ^ 32 → AreRuns items
    joined_within runs few = subst AreRuns (sym split) (runs_within xs k left e runs few is some le)

-- ---- the text

together : {A : Type 0} (P : A → Type 0) (xs : List A) (y : A) → AllByRecursion P xs → P y → AllByRecursion P (xs ++ y ∷ [])
together P [] y all one = (one, tt)
together P (x ∷ xs) y all one = (all.0, together P xs y all.1 one)

one_part : {A B : Type 0} (f : A → List B) (xs : List A) (y : A) → flat_map f (xs ++ y ∷ []) ≡ flat_map f xs ++ f y
one_part f xs y = flat_map-append f xs (y ∷ []) ∙ ap (λ l. flat_map f xs ++ l) (append-nil (f y))

first_and_last : (count : ℕ) (events : List Event)
    → take count events ++ drop (length events - (length events - count)) events ≡ events
first_and_last count events = elim (cases_lt (length events) count) [
  | inl past ↦
      let gone : drop (length events - (length events - count)) events ≡ [] =
      ap (λ k. drop k events) (omega (arith, past)) ∙ drop-length events in
      ap (λ l. take count events ++ l) gone ∙ append-nil (take count events) ∙ take_all count events (omega (arith, past))
  | inr within ↦ ap (λ k. take count events ++ drop k events) (omega (arith, within)) ∙ take-append-drop count events
]

pub grows : (count : ℕ) (events : List Event) (part : List ScheduleEntry) → length events < 2 ^ 32 → AreRuns part
    → events_of part ≡ drop (length events - (length events - count)) events → GrowsBy count events (part_text part)
grows count events part few runs are = λ text recorded grown. record {
  parts = grown.parts ++ part ∷ [];
  recording_fits = grown.recording_fits;
  joined = together AreRuns grown.parts part grown.joined runs;
  few = few;
  are = sym (first_and_last count events) ∙ ap (λ l. l ++ drop (length events - (length events - count)) events) grown.are
      ∙ ap (λ l. flat_map events_of grown.parts ++ l) (sym are) ∙ sym (one_part events_of grown.parts part);
  text_is = ap (λ t. t ++ part_text part) grown.text_is ∙ append_assoc (growing_front recorded) (flat_map part_text grown.parts) (part_text part)
      ∙ ap (λ l. growing_front recorded ++ l) (sym (one_part part_text grown.parts part));
}
