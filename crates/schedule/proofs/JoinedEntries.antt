-- Entries that are joined.
use Rattle.std.proofs.Common.{◌≡◌, ℕ, zero, suc, ◌+◌, ◌-◌, ◌<◌, ◌≤◌, ◌^◌, List, [], ◌∷◌, ◌++◌, length, replicate, Some, refl, sym, ap, subst, ◌∙◌, arith}
use Rattle.std.specs.Prelude.{min, slice_get, slice_index_or, slice_set}
use Rattle.std.specs.List.{AllByRecursion}
use Rattle.std.proofs.Math.Nat.{min-le_left, min-le_right}
use Rattle.std.proofs.lemmas.Option.{same_Some, slice_get_read, slice_get_within}
use Rattle.std.proofs.lemmas.List.{append-nil, append_assoc, replicate-append-replicate}
use Rattle.std.proofs.lemmas.Grind.{flat_map-append}
use Rattle.model.specs.declared.event.Event.{Event}
use Rattle.model.specs.declared.event.ScheduleEntry.{ScheduleEntry}
use Rattle.model.specs.Schedule.{EntryFits, events_of}
use Rattle.schedule.specs.Joined.{AreJoined, AreRuns, CanTake, HasRoom, IsApart, last_of}

abbrev event_in : ScheduleEntry → Event
event_in e = e.event

abbrev spelled : ScheduleEntry → List Event
spelled e = replicate e.repeat e.event

-- ---- an entry more

events_push : (xs : List ScheduleEntry) (e : ScheduleEntry) → events_of (xs ++ e ∷ []) ≡ events_of xs ++ spelled e
events_push xs e = flat_map-append spelled xs (e ∷ []) ∙ ap (λ l. events_of xs ++ l) (append-nil (spelled e))

each_push : (xs : List ScheduleEntry) (e : ScheduleEntry) → AllByRecursion EntryFits xs → EntryFits e
    → AllByRecursion EntryFits (xs ++ e ∷ [])
each_push [] e h fits = (fits, tt)
each_push (x ∷ xs) e h fits = (h.0, each_push xs e h.1 fits)

before : (n : ℕ) → suc (suc n) - 1 ≡ suc (suc n - 1)
before n = omega arith

joined_push : (xs : List ScheduleEntry) (e : ScheduleEntry) → AreJoined xs → IsApart xs e.event → AreJoined (xs ++ e ∷ [])
joined_push [] e h apart = tt
joined_push (x ∷ []) e h apart = (apart x refl, tt)
joined_push (x ∷ y ∷ ys) e h apart =
    (h.0, joined_push (y ∷ ys) e h.1 (λ l is. apart l (ap (slice_get (x ∷ y ∷ ys)) (before (length ys)) ∙ is)))

pub runs_push : (xs : List ScheduleEntry) (e : ScheduleEntry) → AreRuns xs → EntryFits e → IsApart xs e.event → AreRuns (xs ++ e ∷ [])
runs_push xs e h fits apart = record { each = each_push xs e h.each fits; joined = joined_push xs e h.joined apart }

-- all of the events, where so many were left
pub events_pushed : (xs : List ScheduleEntry) (e : ScheduleEntry) (all : List Event) → events_of xs ++ spelled e ≡ all
    → events_of (xs ++ e ∷ []) ≡ all
events_pushed xs e all are = events_push xs e ∙ are

-- ---- the last entry made longer

each_set : (xs : List ScheduleEntry) (k : ℕ) (y : ScheduleEntry) → AllByRecursion EntryFits xs → EntryFits y
    → AllByRecursion EntryFits (slice_set xs k y)
each_set [] k y h fits = tt
each_set (x ∷ xs) zero y h fits = (fits, h.1)
each_set (x ∷ xs) (suc k) y h fits = (h.0, each_set xs k y h.1 fits)

pub each_at : (xs : List ScheduleEntry) (k : ℕ) (e : ScheduleEntry) → AllByRecursion EntryFits xs → slice_get xs k ≡ Some e → EntryFits e
each_at [] k e h is = absurd cc
each_at (x ∷ xs) zero e h is = subst EntryFits (same_Some x e is) h.0
each_at (x ∷ xs) (suc k) e h is = each_at xs k e h.1 is

two_are_not_one : (n : ℕ) → suc (suc n) ≡ 1 → ⊥
two_are_not_one n h = omega (arith, h)

one_is_not_two : (k : ℕ) → 1 ≡ suc (suc k) → ⊥
one_is_not_two k h = omega (arith, h)

one_less : (m n : ℕ) → suc m ≡ suc (suc n) → m ≡ suc n
one_less m n h = omega (arith, h)

joined_set : (xs : List ScheduleEntry) (k : ℕ) (e y : ScheduleEntry) → length xs ≡ suc k → slice_get xs k ≡ Some e → y.event ≡ e.event
    → AreJoined xs → AreJoined (slice_set xs k y)
joined_set [] k e y last is same h = tt
joined_set (x ∷ []) zero e y last is same h = tt
joined_set (x ∷ []) (suc k) e y last is same h = absurd (one_is_not_two k last)
joined_set (x ∷ x2 ∷ xs) zero e y last is same h = absurd (two_are_not_one (length xs) last)
joined_set (x ∷ x2 ∷ xs) (suc zero) e y last is same h =
    (λ takes. h.0 (subst (CanTake x) (same ∙ ap event_in (sym (same_Some x2 e is))) takes), joined_set (x2 ∷ xs) zero e y (one_less (suc (length xs)) zero last) is same h.1)
joined_set (x ∷ x2 ∷ xs) (suc (suc k)) e y last is same h =
    (h.0, joined_set (x2 ∷ xs) (suc k) e y (one_less (suc (length xs)) (suc k) last) is same h.1)

get_set : (xs : List ScheduleEntry) (k : ℕ) (e y : ScheduleEntry) → slice_get xs k ≡ Some e → slice_get (slice_set xs k y) k ≡ Some y
get_set [] k e y is = absurd cc
get_set (x ∷ xs) zero e y is = refl
get_set (x ∷ xs) (suc k) e y is = get_set xs k e y is

length_set : (xs : List ScheduleEntry) (k : ℕ) (y : ScheduleEntry) → length (slice_set xs k y) ≡ length xs
length_set [] k y = refl
length_set (x ∷ xs) zero y = refl
length_set (x ∷ xs) (suc k) y = ap suc (length_set xs k y)

last_longer : (x y : ScheduleEntry) (count : ℕ) → y.event ≡ x.event → y.repeat ≡ x.repeat + count
    → spelled y ≡ spelled x ++ replicate count x.event
last_longer x y count same more =
    ap (λ v. replicate y.repeat v) same ∙ ap (λ n. replicate n x.event) more ∙ sym (replicate-append-replicate x.repeat count x.event)

events_longer : (xs : List ScheduleEntry) (k : ℕ) (e y : ScheduleEntry) (count : ℕ) → length xs ≡ suc k → slice_get xs k ≡ Some e
    → y.event ≡ e.event → y.repeat ≡ e.repeat + count
    → events_of (slice_set xs k y) ≡ events_of xs ++ replicate count e.event
events_longer [] k e y count last is same more = absurd cc
events_longer (x ∷ []) zero e y count last is same more =
    let at : x ≡ e = same_Some x e is in
    append-nil (spelled y) ∙ last_longer e y count same more ∙ ap (λ (z : ScheduleEntry). spelled z ++ replicate count e.event) (sym at)
    ∙ ap (λ l. l ++ replicate count e.event) (sym (append-nil (spelled x)))
events_longer (x ∷ x2 ∷ xs) zero e y count last is same more = absurd (two_are_not_one (length xs) last)
events_longer (x ∷ xs) (suc k) e y count last is same more =
    ap (λ l. spelled x ++ l) (events_longer xs k e y count (one_less (length xs) k last) is same more) ∙ sym (append_assoc (spelled x) (events_of xs) (replicate count e.event))

not_empty : (xs : List ScheduleEntry) (e : ScheduleEntry) → last_of xs ≡ Some e → 1 ≤ length xs
not_empty xs e is = omega (arith, slice_get_within xs (length xs - 1) e is)

-- the last entry stands for some more of the events for which it has room
module _ (xs : List ScheduleEntry) (event : Event) (n taken count : ℕ) (h : HasRoom xs event n) (some : 0 < taken) (few : taken ≤ n) (most : taken ≤ count) where
  pub there : 1 ≤ length xs
  there = not_empty xs h.last h.is

  abbrev entry : ScheduleEntry
  entry = record { event = event; repeat = h.last.repeat + taken }

  last : length xs ≡ suc (length xs - 1)
  last = let at = there in omega (arith, at)

  pub events_set : events_of (slice_set xs (length xs - 1) entry) ++ replicate (count - taken) event ≡ events_of xs ++ replicate count event
  events_set =
      ap (λ l. l ++ replicate (count - taken) event)
      (events_longer xs (length xs - 1) h.last entry taken last h.is (sym h.same) refl ∙ ap (λ v. events_of xs ++ replicate taken v) h.same)
      ∙ append_assoc (events_of xs) (replicate taken event) (replicate (count - taken) event)
      ∙ ap (λ l. events_of xs ++ l) (replicate-append-replicate taken (count - taken) event ∙ ap (λ m. replicate m event) whole)
    where
      whole : taken + (count - taken) ≡ count
      whole = omega (arith, most)

  longer_fits : AreRuns xs → EntryFits entry
  longer_fits runs =
      let fits = each_at xs (length xs - 1) h.last runs.each h.is in
      record {
        thread = subst (λ (v : Event). v.thread < 2 ^ 16) h.same fits.thread;
        pick = subst (λ (v : Event). v.pick < 2 ^ 16) h.same fits.pick;
        repeat = (omega (arith, fits.repeat.0), omega (arith, few, h.full));
        alone = λ more. h.plain;
      }

  pub runs_set : AreRuns xs → AreRuns (slice_set xs (length xs - 1) entry)
  runs_set runs = record {
    each = each_set xs (length xs - 1) entry runs.each (longer_fits runs);
    joined = joined_set xs (length xs - 1) h.last entry last h.is (sym h.same) runs.joined;
  }

  -- where it has taken all for which it had room
  pub apart_set : taken ≡ n → IsApart (slice_set xs (length xs - 1) entry) event
  apart_set all other is takes =
      let at : last_of (slice_set xs (length xs - 1) entry) ≡ Some entry =
      ap (λ m. slice_get (slice_set xs (length xs - 1) entry) (m - 1)) (length_set xs (length xs - 1) entry)
      ∙ get_set xs (length xs - 1) h.last entry h.is in
      let same : other ≡ entry = same_Some other entry (sym is ∙ at) in
      let full : (other.repeat ≡ h.last.repeat + taken) = ap (λ (e : ScheduleEntry). e.repeat) same in
      omega (arith, takes.room, full, all, h.full)

-- so many of the events were taken, and these are the entries then
pub record Lengthened (xs : List ScheduleEntry) (event : Event) (taken count len repeat : ℕ) : Type 0 where
  pub events : events_of (slice_set xs (len - 1) (record { event = event; repeat = repeat })) ++ replicate (count - taken) event
      ≡ events_of xs ++ replicate count event
  pub runs : AreRuns (slice_set xs (len - 1) (record { event = event; repeat = repeat }))
  pub apart : 0 < count - taken → IsApart (slice_set xs (len - 1) (record { event = event; repeat = repeat })) event

all_taken : (n taken count : ℕ) → taken ≡ min n count → 0 < count - taken → taken ≡ n
all_taken n taken count is left = omega (arith, is, left)

pub lengthened : (xs : List ScheduleEntry) (event : Event) (n taken count len : ℕ) (e : ScheduleEntry) → AreRuns xs → HasRoom xs event n
    → taken ≡ min n count → (taken ≡ 0 → ⊥) → len ≡ length xs → e ≡ slice_index_or xs (len - 1) e
    → Lengthened xs event taken count len (e.repeat + taken)
lengthened xs event n taken count len e runs h is some at read =
    let few : taken ≤ n = subst (λ k. k ≤ n) (sym is) (min-le_left n count) in
    let most : taken ≤ count = subst (λ k. k ≤ count) (sym is) (min-le_right n count) in
    let more : 0 < taken = omega (arith, some) in
    let one : 1 ≤ length xs = there xs event n taken count h more few most in
    let found : slice_get xs (len - 1) ≡ Some e = slice_get_read xs len (len - 1) e at (omega (arith, one, at)) read in
    let same : h.last ≡ e = same_Some h.last e (sym h.is ∙ ap (λ k. slice_get xs (k - 1)) (sym at) ∙ found) in
    let here : Lengthened xs event taken count (length xs) (h.last.repeat + taken) = record {
      events = events_set xs event n taken count h more few most;
      runs = runs_set xs event n taken count h more few most runs;
      apart = λ left. apart_set xs event n taken count h more few most (all_taken n taken count is left);
    } in
    subst (λ k. Lengthened xs event taken count k (e.repeat + taken)) (sym at)
    (subst (λ (x : ScheduleEntry). Lengthened xs event taken count (length xs) (x.repeat + taken)) same here)
