-- Fronts of schedules, one behind the other.
use Rattle.std.proofs.Common.{◌≡◌, ◌+◌, ◌<◌, drop-cons, ℕ, suc, List, [], ◌∷◌, ◌++◌, drop, take, get_or, replicate, length, length-append, refl, sym, ap, subst, ◌∙◌, arith}
use Rattle.std.proofs.lemmas.List.Concat.{flat_map-append}
use Rattle.std.proofs.lemmas.List.{append-nil, append_assoc, take_more, take-append-drop}
use Rattle.model.specs.declared.event.Event.{Event}
use Rattle.model.specs.declared.event.ScheduleEntry.{ScheduleEntry}
use Rattle.model.specs.Classes.{Program}
use Rattle.model.specs.LimitStands.{bounds_of}
use Rattle.model.specs.Schedule.{events_of}
use Rattle.machine.specs.declared.machine.Stopped.{Stopped}
use Rattle.machine.specs.declared.machine.Stopped.TheVariants as stopped
use Rattle.machine.specs.Machines.{MachineOf}
use Rattle.machine.specs.schedule_runs.Done.{HasDone, OfNext, EndsBy, GoesThrough}

-- so far all events were done
pub record IsPassed (schedule : List Event) (n : ℕ) (old new : MachineOf) : Type 0 where
  pub same : new ≡ record old { shared = new.shared }
  pub done : (files : List (List ℕ)) (trees : Program) (before : List Event) → HasDone old files trees before
      → (n ≡ length schedule) × HasDone new files trees (before ++ schedule)

pub begins : (m : MachineOf) → IsPassed [] 0 m m
begins m = record { same = refl; done = λ files trees before done. (refl, subst (HasDone m files trees) (sym (append-nil before)) done) }

still_same : (old between new : MachineOf) → between ≡ record old { shared = between.shared }
    → new ≡ record between { shared = new.shared } → new ≡ record old { shared = new.shared }
still_same old between new s t = t ∙ ap (λ (m : MachineOf). record m { shared = new.shared }) s

-- an end of some left is one of more
of_more : (P : Event → Type 0) (left rest : List Event) → OfNext left P → OfNext (left ++ rest) P
of_more P [] rest h = absurd h
of_more P (e ∷ left) rest h = h

-- what is so of the events that were done, and of those that are left
abbrev pub Ended : MachineOf → List (List ℕ) → Program → Stopped → (left done : List Event) → Type 0
Ended m files trees why left done = (h : HasDone m files trees done) × EndsBy why trees (bounds_of m.limits) h.run.lead.state done left

-- where none was done so often as was asked for, more may be left
ends_more : (m : MachineOf) (files : List (List ℕ)) (trees : Program) (why : Stopped) → (why ≡ stopped.Most → ⊥)
    → (left rest done : List Event) → Ended m files trees why left done → Ended m files trees why (left ++ rest) done
ends_more m files trees stopped.Most not_most left rest done e = absurd (not_most refl)
ends_more m files trees stopped.NotEnabled not_most left rest done e = (e.0, of_more _ left rest e.1)
ends_more m files trees (stopped.Refused told) not_most left rest done e = (e.0, of_more _ left rest e.1)

module _ (schedule : List Event) (n : ℕ) (old between new : MachineOf) (passed : IsPassed schedule n old between) (more : List Event)
    (k : ℕ) where
  -- all of some more were done
  pub goes_on : GoesThrough (k, stopped.Most) more between new → IsPassed (schedule ++ more) (n + k) old new
  goes_on h =
      record {
        same = still_same old between new passed.same h.0;
        done = λ files trees before done.
            let so_far = passed.done files trees before done in
            let gone = h.1 files trees (before ++ schedule) so_far.1 in
            let front : more ≡ gone.front = gone.schedule_is ∙ ap (λ l. gone.front ++ l) gone.ends ∙ append-nil gone.front in
            let all : (before ++ schedule) ++ gone.front ≡ before ++ (schedule ++ more) = append_assoc before schedule gone.front ∙ ap (λ l. before ++ (schedule ++ l)) (sym front) in
            let many : length more ≡ length gone.front = ap length front in
            (omega (arith, so_far.0, gone.count, many, length-append schedule more), subst (HasDone new files trees) all gone.done);
      }

  -- or some of them, and no more of all
  pub stops : (why : Stopped) → (why ≡ stopped.Most → ⊥) → GoesThrough (k, why) more between new → (all rest : List Event)
      → all ≡ schedule ++ (more ++ rest) → GoesThrough (n + k, why) all old new
  stops why not_most h all rest e = (
    still_same old between new passed.same h.0,
    λ files trees before done.
        let so_far = passed.done files trees before done in
        let gone = h.1 files trees (before ++ schedule) so_far.1 in
        let ended : Ended new files trees why (gone.left ++ rest) (before ++ (schedule ++ gone.front)) =
        subst (Ended new files trees why (gone.left ++ rest)) (append_assoc before schedule gone.front) (ends_more new files trees why not_most gone.left rest ((before ++ schedule) ++ gone.front) (gone.done, gone.ends))
        in
        record {
          front = schedule ++ gone.front;
          left = gone.left ++ rest;
          schedule_is = e ∙ ap (λ l. schedule ++ (l ++ rest)) gone.schedule_is ∙ ap (λ l. schedule ++ l) (append_assoc gone.front gone.left rest) ∙ sym (append_assoc schedule gone.front (gone.left ++ rest));
          count = omega (arith, so_far.0, gone.count, length-append schedule gone.front);
          done = ended.0;
          ends = ended.1;
        },
  )

pub all_done : (schedule : List Event) (n : ℕ) (old new : MachineOf) → IsPassed schedule n old new
    → GoesThrough (n, stopped.Most) schedule old new
all_done schedule n old new passed = (
  passed.same,
  λ files trees before done.
      let so_far = passed.done files trees before done in
      record { front = schedule; left = []; schedule_is = sym (append-nil schedule); count = so_far.0; done = so_far.1; ends = refl },
)

-- ---- the events of entries

abbrev pub of_entry : ScheduleEntry → List Event
of_entry entry = replicate entry.repeat entry.event

-- those before an entry, its own, and those behind it
pub around : (entries : List ScheduleEntry) (i : ℕ) (d : ScheduleEntry) → i < length entries
    → events_of entries ≡ events_of (take i entries) ++ (of_entry (get_or entries i d) ++ events_of (drop (suc i) entries))
around entries i d lt =
    ap events_of (sym (take-append-drop i entries))
    ∙ flat_map-append of_entry (take i entries) (drop i entries)
    ∙ ap (λ es. events_of (take i entries) ++ es) (ap events_of (drop-cons entries i d lt))

-- those of one entry more
pub one_more : (entries : List ScheduleEntry) (i : ℕ) (d : ScheduleEntry) → i < length entries
    → events_of (take (i + 1) entries) ≡ events_of (take i entries) ++ of_entry (get_or entries i d)
one_more entries i d lt =
    ap events_of (take_more entries i d lt) ∙ flat_map-append of_entry (take i entries) (get_or entries i d ∷ []) ∙ ap (λ l. events_of (take i entries) ++ l) (append-nil (of_entry (get_or entries i d)))
