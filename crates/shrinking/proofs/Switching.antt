-- How often entries go from a thread to another one.
use Rattle.std.proofs.Common.{◌≡◌, ◌≤◌, ◌<◌, ◌+◌, ◌==◌, ◌++◌, ℕ, zero, suc, List, [], ◌∷◌, Some, length, replicate, drop, get_or, cond, refl, sym, ap, ◌∙◌, arith, zero-add}
use Rattle.std.specs.List.{AllByRecursion, slice_get}
use Rattle.std.proofs.Math.Seq.{drop-cons}
use Rattle.std.proofs.lemmas.Bool.{eq-eqb}
use Rattle.std.proofs.lemmas.Option.{same_Some}
use Rattle.model.specs.declared.event.Event.{Event}
use Rattle.model.specs.declared.event.ScheduleEntry.{ScheduleEntry}
use Rattle.model.specs.Schedule.{EntryFits, events_of}
use Rattle.shrinking.specs.Switches.{switches, switches_behind}

-- more events of the same thread are no switch
repeated : (n : ℕ) (e : Event) (events : List Event) → switches_behind e.thread (replicate n e ++ events) ≡ switches_behind e.thread events
repeated zero e events = refl
repeated (suc n) e events =
    ap (λ b. cond b 0 1 + switches_behind e.thread (replicate n e ++ events)) (eq-eqb e.thread e.thread refl)
    ∙ (zero-add (switches_behind e.thread (replicate n e ++ events)) ∙ repeated n e events)

once : (thread n : ℕ) (e : Event) (events : List Event) → 1 ≤ n
    → switches_behind thread (replicate n e ++ events) ≡ cond (e.thread == thread) 0 1 + switches_behind e.thread events
once thread zero e events le = absurd (omega (arith, le))
once thread (suc n) e events le = ap (λ m. cond (e.thread == thread) 0 1 + m) (repeated n e events)

fits_at : (entries : List ScheduleEntry) (at : ℕ) (d : ScheduleEntry) → at < length entries → AllByRecursion EntryFits entries → EntryFits (get_or entries at d)
fits_at [] at d less all = absurd (omega (arith, less))
fits_at (e ∷ entries) zero d less all = all.0
fits_at (e ∷ entries) (suc at) d less all = fits_at entries at d (omega (arith, less)) all.1

-- behind an entry: those so far, and those that are left
pub entry_behind : (entries : List ScheduleEntry) (at : ℕ) (d : ScheduleEntry) → at < length entries → AllByRecursion EntryFits entries → (thread : ℕ)
    → switches_behind thread (events_of (drop at entries))
    ≡ cond ((get_or entries at d).event.thread == thread) 0 1 + switches_behind (get_or entries at d).event.thread (events_of (drop (at + 1) entries))
entry_behind entries at d less all thread =
    let next : suc at ≡ at + 1 = omega arith in
    let entry = get_or entries at d in
    let fits = fits_at entries at d less all in
    ap (λ l. switches_behind thread (events_of l)) (drop-cons entries at d less)
    ∙ (ap (λ n. switches_behind thread (events_of (entry ∷ drop n entries))) next
    ∙ once thread entry.repeat entry.event (events_of (drop (at + 1) entries)) fits.repeat.0)

-- the first event is no switch
first_is_none : (n : ℕ) (e : Event) (events : List Event) → 1 ≤ n → switches_behind e.thread (replicate n e ++ events) ≡ switches (replicate n e ++ events)
first_is_none zero e events le = absurd (omega (arith, le))
first_is_none (suc n) e events le =
    ap (λ b. cond b 0 1 + switches_behind e.thread (replicate n e ++ events)) (eq-eqb e.thread e.thread refl) ∙ zero-add (switches_behind e.thread (replicate n e ++ events))

pub from_first : (entries : List ScheduleEntry) (entry : ScheduleEntry) → slice_get entries 0 ≡ Some entry → AllByRecursion EntryFits entries
    → switches_behind entry.event.thread (events_of entries) ≡ switches (events_of entries)
from_first [] entry is all = absurd cc
from_first (e ∷ entries) entry is all =
    ap (λ (x : ScheduleEntry). switches_behind x.event.thread (events_of (e ∷ entries))) (sym (same_Some e entry is))
    ∙ first_is_none e.repeat e.event (events_of entries) all.0.repeat.0
