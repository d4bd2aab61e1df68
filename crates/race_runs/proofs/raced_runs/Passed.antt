-- Fronts of schedules that a machine does with a finder beside it, one behind the other.
use Rattle.std.proofs.Common.{◌≡◌, ◌+◌, ℕ, List, [], ◌∷◌, ◌++◌, length, length-append, refl, sym, ap, subst, ◌∙◌, arith}
use Rattle.std.proofs.lemmas.List.{append-nil, append_assoc}
use Rattle.model.specs.declared.event.Event.{Event}
use Rattle.model.specs.Classes.{Program}
use Rattle.model.specs.LimitStands.{bounds_of}
use Rattle.machine.specs.declared.machine.Stopped.{Stopped}
use Rattle.machine.specs.declared.machine.Stopped.TheVariants as stopped
use Rattle.machine.specs.Machines.{MachineOf}
use Rattle.machine.specs.schedule_runs.Done.{HasDone, OfNext, EndsBy}
use Rattle.race_runs.specs.declared.finder.Finder.{Finder}
use Rattle.race_runs.specs.raced_runs.Going.{HasRaced, RacesThrough}

-- so far all events were done
pub record IsPassed (schedule : List Event) (n : ℕ) (old new : MachineOf) (before after : Finder) : Type 0 where
  pub same : new ≡ record old { shared = new.shared }
  pub raced : (files : List (List ℕ)) (trees : Program) (events : List Event) → HasRaced files trees old before events
      → (n ≡ length schedule) × HasRaced files trees new after (events ++ schedule)

pub begins : (m : MachineOf) (finder : Finder) → IsPassed [] 0 m m finder finder
begins m finder =
    record { same = refl; raced = λ files trees events raced. (refl, subst (λ (l : List Event). HasRaced files trees m finder l) (sym (append-nil events)) raced) }

still_same : (old between new : MachineOf) → between ≡ record old { shared = between.shared }
    → new ≡ record between { shared = new.shared } → new ≡ record old { shared = new.shared }
still_same old between new s t = t ∙ ap (λ (m : MachineOf). record m { shared = new.shared }) s

-- an end of some left is one of more
of_more : (P : Event → Type 0) (left rest : List Event) → OfNext left P → OfNext (left ++ rest) P
of_more P [] rest h = absurd h
of_more P (e ∷ left) rest h = h

-- what is so of the events that were done, and of those that are left
abbrev pub Ended : MachineOf → List (List ℕ) → Program → Stopped → (left done : List Event) → Type 0
Ended m files trees why left done = (h : HasDone m files trees done) × EndsBy why trees (bounds_of m.limits) h.run.lead.state done left

ends_more : (m : MachineOf) (files : List (List ℕ)) (trees : Program) (why : Stopped) → (why ≡ stopped.Most → ⊥)
    → (left rest done : List Event) → Ended m files trees why left done → Ended m files trees why (left ++ rest) done
ends_more m files trees stopped.Most not_most left rest done e = absurd (not_most refl)
ends_more m files trees stopped.NotEnabled not_most left rest done e = (e.0, of_more _ left rest e.1)
ends_more m files trees (stopped.Refused told) not_most left rest done e = (e.0, of_more _ left rest e.1)

module _ (schedule : List Event) (n : ℕ) (old between new : MachineOf) (before middle after : Finder) (passed : IsPassed schedule n old between before middle)
    (more : List Event) (k : ℕ) where
  -- all of some more were done
  pub goes_on : RacesThrough (k, stopped.Most) more between new middle after → IsPassed (schedule ++ more) (n + k) old new before after
  goes_on h =
      record {
        same = still_same old between new passed.same h.0;
        raced = λ files trees events raced.
            let so_far = passed.raced files trees events raced in
            let on = h.1 files trees (events ++ schedule) so_far.1 in
            let gone = on.gone in
            let front : more ≡ gone.front = gone.schedule_is ∙ ap (λ l. gone.front ++ l) gone.ends ∙ append-nil gone.front in
            let all : (events ++ schedule) ++ gone.front ≡ events ++ (schedule ++ more) = append_assoc events schedule gone.front ∙ ap (λ l. events ++ (schedule ++ l)) (sym front) in
            let many : length more ≡ length gone.front = ap length front in (
              omega (arith, so_far.0, gone.count, many, length-append schedule more),
              subst (λ (l : List Event). HasRaced files trees new after l) all on.raced,
            );
      }

  -- or some of them, and no more of all
  pub stops : (why : Stopped) → (why ≡ stopped.Most → ⊥) → RacesThrough (k, why) more between new middle after → (all rest : List Event)
      → all ≡ schedule ++ (more ++ rest) → RacesThrough (n + k, why) all old new before after
  stops why not_most h all rest e = (
    still_same old between new passed.same h.0,
    λ files trees events raced.
        let so_far = passed.raced files trees events raced in
        let on = h.1 files trees (events ++ schedule) so_far.1 in
        let gone = on.gone in
        let ended : Ended new files trees why (gone.left ++ rest) (events ++ (schedule ++ gone.front)) =
        subst (Ended new files trees why (gone.left ++ rest)) (append_assoc events schedule gone.front) (ends_more new files trees why not_most gone.left rest ((events ++ schedule) ++ gone.front) (gone.done, gone.ends))
        in
        record {
          gone = record {
            front = schedule ++ gone.front;
            left = gone.left ++ rest;
            schedule_is = e ∙ ap (λ l. schedule ++ (l ++ rest)) gone.schedule_is ∙ ap (λ l. schedule ++ l) (append_assoc gone.front gone.left rest) ∙ sym (append_assoc schedule gone.front (gone.left ++ rest));
            count = omega (arith, so_far.0, gone.count, length-append schedule gone.front);
            done = ended.0;
            ends = ended.1;
          };
          raced = subst (λ (l : List Event). HasRaced files trees new after l) (append_assoc events schedule gone.front) on.raced;
        },
  )

pub all_done : (schedule : List Event) (n : ℕ) (old new : MachineOf) (before after : Finder) → IsPassed schedule n old new before after
    → RacesThrough (n, stopped.Most) schedule old new before after
all_done schedule n old new before after passed = (
  passed.same,
  λ files trees events raced.
      let so_far = passed.raced files trees events raced in
      record {
        gone = record { front = schedule; left = []; schedule_is = sym (append-nil schedule); count = so_far.0; done = so_far.1.done; ends = refl };
        raced = so_far.1;
      },
)
