-- An event again and again.
use Rattle.std.proofs.Common.{◌≡◌, ◌<◌, ◌+◌, ℕ, zero, suc, List, Result, Ok, Err, refl, sym, ap, subst, ◌∙◌, arith}
use Rattle.model.specs.declared.event.Event.{Event}
use Rattle.model.specs.Classes.{Program}
use Rattle.model.specs.declared.limits.Limits.{Limits}
use Rattle.model.specs.LimitStands.{Bounds, bounds_of, inflated_by}
use Rattle.model.specs.State.{StateOf}
use Rattle.machine_state.specs.declared.answers.Answer.{Answer}
use Rattle.machine_state.specs.declared.answers.Answer.TheVariants as answer
use Rattle.machine_state.specs.declared.refusals.EventRefusal.{EventRefusal}
use Rattle.machine_state.specs.declared.state.Shared.{Shared}
use Rattle.machine.specs.declared.machine.Stopped.TheVariants as stopped
use Rattle.machine.specs.Machines.{MachineOf, Shows, Steps, IsRepeated, HasRepeated, Repeats, HasLed, IsSoFar}
use Rattle.machine_state.proofs.shown_runs.Same.{shown_still}
use Rattle.machine.proofs.Turning.{with_shared}

pub begins : (event : Event) (m : MachineOf) → IsSoFar event 0 m m
begins event m =
    record {
      same = refl;
      led = λ files trees inflated state shows. record { locks = inflated; next = state; repeated = (refl, refl); shows = record { accepted = shows.accepted; program = shows.program; shown = shows.shown } };
    }

module _ (event : Event) (n : ℕ) (old between new : MachineOf) (so_far : IsSoFar event n old between) where
  -- the answer to the next event, of the machine as it is
  turns : (result : Result Answer EventRefusal) → Steps result event between new → Steps result event (with_shared old between.shared) new
  turns result s = subst (λ m. Steps result event m new) so_far.same s

  still_same : (result : Result Answer EventRefusal) → Steps result event between new → new ≡ with_shared old new.shared
  still_same result s = (turns result s).0

  pub goes_on : Steps (Ok answer.Done) event between new → IsSoFar event (suc n) old new
  goes_on s =
      record {
        same = still_same (Ok answer.Done) s;
        led = λ files trees inflated state shows.
            let led = so_far.led files trees inflated state shows in
            let turn = (turns (Ok answer.Done) s).1 files trees led.locks led.next led.shows in
            record {
              locks = inflated_by turn.cost led.locks;
              next = turn.next;
              repeated = (led.locks, led.next, led.repeated, record { cost = turn.cost; is = turn.is; within = turn.within; locks = refl });
              shows = record { accepted = led.shows.accepted; program = led.shows.program; shown = turn.shown };
            };
      }

  pub goes_on_by : (m : ℕ) → m ≡ n + 1 → Steps (Ok answer.Done) event between new → IsSoFar event m old new
  goes_on_by m e s = subst (λ k. IsSoFar event k old new) (omega (arith, e)) (goes_on s)

  -- the next one is not enabled
  pub not_enabled : (most : ℕ) → n < most → Steps (Ok answer.NotEnabled) event between new
      → Repeats (n, stopped.NotEnabled) event most old new
  not_enabled most within s = (
    omega (arith, within),
    still_same (Ok answer.NotEnabled) s,
    λ files trees inflated state shows.
        let led = so_far.led files trees inflated state shows in
        let turn = (turns (Ok answer.NotEnabled) s).1 files trees led.locks led.next led.shows in
        subst (λ m. HasRepeated m files trees event n most stopped.NotEnabled inflated state) (sym (still_same (Ok answer.NotEnabled) s)) (record {
          locks = led.locks;
          next = led.next;
          repeated = led.repeated;
          shows = record {
            accepted = led.shows.accepted;
            program = led.shows.program;
            shown = shown_still trees old.program (bounds_of old.limits) led.locks between.shared new.shared led.next led.shows.shown turn.1;
          };
          stops = (within, turn.0);
        }),
  )

  -- or it is refused
  pub refused : (most : ℕ) → n < most → (told : EventRefusal) → Steps (Err told) event between new
      → Repeats (n, stopped.Refused told) event most old new
  refused most within told s = (
    omega (arith, within),
    still_same (Err told) s,
    λ files trees inflated state shows.
        let led = so_far.led files trees inflated state shows in
        let turn = (turns (Err told) s).1 files trees led.locks led.next led.shows in
        subst (λ m. HasRepeated m files trees event n most (stopped.Refused told) inflated state) (sym (still_same (Err told) s)) (record {
          locks = led.locks;
          next = led.next;
          repeated = led.repeated;
          shows = record {
            accepted = led.shows.accepted;
            program = led.shows.program;
            shown = shown_still trees old.program (bounds_of old.limits) led.locks between.shared new.shared led.next led.shows.shown turn.1;
          };
          stops = (within, turn.0);
        }),
  )

-- as many are done as were asked for
pub all_done : (event : Event) (most n : ℕ) (old new : MachineOf) → n ≡ most → IsSoFar event n old new
    → Repeats (most, stopped.Most) event most old new
all_done event most n old new e so_far = (
  omega (arith),
  so_far.same,
  λ files trees inflated state shows.
      let led = (subst (λ k. IsSoFar event k old new) e so_far).led files trees inflated state shows in
      subst (λ m. HasRepeated m files trees event most most stopped.Most inflated state) (sym so_far.same) (record {
        locks = led.locks;
        next = led.next;
        repeated = led.repeated;
        shows = led.shows;
        stops = refl;
      }),
)

-- ---- events that go on where others have led

pub repeated_then : (trees : Program) (bounds : Bounds) (event : Event) (m n : ℕ) (inflated : List ℕ) (state : StateOf ℕ) (locks : List ℕ) (between : StateOf ℕ) (later : List ℕ) (after : StateOf ℕ)
    → IsRepeated trees bounds event n inflated state locks between → IsRepeated trees bounds event m locks between later after
    → IsRepeated trees bounds event (n + m) inflated state later after
repeated_then trees bounds event zero n inflated state locks between later after r e =
    let count : n ≡ n + 0 = omega arith in
    let P : ℕ → Type 0 = λ k. IsRepeated trees bounds event k inflated state later after in
    let Q : List ℕ → Type 0 = λ l. IsRepeated trees bounds event n inflated state l after in
    let R : StateOf ℕ → Type 0 = λ s. IsRepeated trees bounds event n inflated state locks s in
    subst P count (subst Q (sym e.0) (subst R (sym e.1) r))
repeated_then trees bounds event (suc m) n inflated state locks between later after r e =
    let count : suc (n + m) ≡ n + suc m = omega arith in
    let P : ℕ → Type 0 = λ k. IsRepeated trees bounds event k inflated state later after in
    subst P count (e.0, e.1, repeated_then trees bounds event m n inflated state locks between e.0 e.1 r e.2, e.3)

pub so_far_then : (event : Event) (n m : ℕ) (old between new : MachineOf) → IsSoFar event n old between → IsSoFar event m between new → IsSoFar event (n + m) old new
so_far_then event n m old between new first second =
    let machine : record between { shared = new.shared } ≡ record old { shared = new.shared } = ap (λ (x : MachineOf). record x { shared = new.shared }) first.same in
    record {
      same = second.same ∙ machine;
      led = λ files trees inflated state shows.
          let a = first.led files trees inflated state shows in
          let P : MachineOf → Type 0 = λ x. Shows x files trees a.locks a.next in
          let b = second.led files trees a.locks a.next (subst P (sym first.same) a.shows) in
          let Q : Limits → Type 0 = λ l. IsRepeated trees (bounds_of l) event m a.locks a.next b.locks b.next in
          let R : MachineOf → Type 0 = λ x. Shows x files trees b.locks b.next in
          record {
            locks = b.locks;
            next = b.next;
            repeated =
                repeated_then trees (bounds_of old.limits) event m n inflated state a.locks a.next b.locks b.next a.repeated
                (subst Q (ap (λ (x : MachineOf). x.limits) first.same) b.repeated);
            shows = subst R machine b.shows;
          };
    }
