-- A world goes on by an event that is done again and again.
use Rattle.std.proofs.Common.{◌≡◌, ◌≤◌, ◌+◌, ◌-◌, ℕ, List, ◌++◌, None, length, replicate, take, refl, sym, ap, subst, ◌∙◌, arith}
use Rattle.std.specs.Prelude.{min}
use Rattle.std.proofs.lemmas.List.{length-append, length-replicate, take-replicate}
use Rattle.std.proofs.Math.Seq.{take-append_seam}
use Rattle.std.proofs.Math.Nat.{min-le_right}
use Rattle.model.specs.declared.event.Event.{Event}
use Rattle.model.specs.LimitStands.{bounds_of}
use Rattle.machine.specs.declared.machine.Stopped.{Stopped}
use Rattle.machine.specs.Machines.{MachineOf, Repeats}
use Rattle.machine.specs.schedule_runs.Done.{HasDone, HasGone}
use Rattle.machine.proofs.schedule_runs.Repeated.{entry_gone}
use Rattle.program_runs.specs.worlds.Worlds.{WorldOf, Holds, EndFits, HasRepeated, RepeatsWithin}

module _ (w : WorldOf) (h : Holds w) (on : w.end ≡ None) (event : Event) (asked n : ℕ) (why : Stopped) (new : MachineOf)
    (r : Repeats (n, why) event asked w.machine new) where
  gone : HasGone new h.files w.trees w.events (replicate asked event) n why
  gone = (entry_gone (n, why) event asked w.machine new r).1 h.files w.trees w.events h.done

  front : gone.front ≡ replicate n event
  front =
      sym (take-append_seam gone.front gone.left) ∙ ap (take (length gone.front)) (sym gone.schedule_is) ∙ ap (λ k. take k (replicate asked event)) (sym gone.count)
      ∙ take-replicate n asked event r.0

  done : HasDone new h.files w.trees (w.events ++ replicate n event)
  done = subst (λ l. HasDone new h.files w.trees (w.events ++ l)) front gone.done

  module _ (es : List Event) (are : es ≡ w.events ++ replicate n event) where
    -- as far as the budget leaves
    pub goes_on : length w.events + n ≤ w.budget → Holds (record w { events = es; machine = new })
    goes_on room =
        subst (λ l. Holds (record w { events = l; machine = new })) (sym are) (record {
          files = h.files;
          done = done;
          within = omega (arith, room, length-append w.events (replicate n event), length-replicate n event);
          fits = subst (EndFits w.trees (bounds_of new.limits) done.run.lead.state w.budget (w.events ++ replicate n event)) (sym on) tt;
        })

    module _ (most : ℕ) (asked_is : asked ≡ min most (w.budget - length w.events)) where
      pub goes_on_within : Holds (record w { events = es; machine = new })
      goes_on_within = goes_on (omega (arith, h.within, r.0, asked_is, min-le_right most (w.budget - length w.events)))

      pub has_repeated : RepeatsWithin event most w.end (n, why) w (record w { events = es; machine = new })
      has_repeated =
          subst (λ o. RepeatsWithin event most o (n, why) w (record w { events = es; machine = new })) (sym on) (record {
            same = record { trees = refl; budget = refl; limits = ap (λ (m : MachineOf). m.limits) r.1 };
            files = h.files;
            asked = asked;
            asked_is = asked_is;
            gone = gone;
            events = are;
            on = refl;
          })

      pub has_repeated_at : (old : WorldOf) → w ≡ old
          → RepeatsWithin event most old.end (n, why) old (record w { events = es; machine = new })
      has_repeated_at old same = subst (λ (o : WorldOf). RepeatsWithin event most o.end (n, why) o (record w { events = es; machine = new })) same has_repeated

-- what is said of a world where there is no end, of equal ones before and after
pub repeated_of : (event : Event) (most n : ℕ) (why : Stopped) (w old new after : WorldOf) → w.end ≡ None → w ≡ old → after ≡ new
    → RepeatsWithin event most old.end (n, why) old new
    → HasRepeated event most n why w after
repeated_of event most n why w old new after on before then is =
    let at : RepeatsWithin event most w.end (n, why) w new = subst (λ (x : WorldOf). RepeatsWithin event most x.end (n, why) x new) (sym before) is in
    subst (λ (x : WorldOf). HasRepeated event most n why w x) (sym then) (subst (λ o. RepeatsWithin event most o (n, why) w new) on at)
