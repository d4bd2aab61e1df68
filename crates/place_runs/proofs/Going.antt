-- A thread goes on, event by event.
use Rattle.std.proofs.Common.{◌≡◌, ◌⊎◌, ◌<◌, ◌≤◌, ◌+◌, ◌-◌, ℕ, zero, suc, List, [], ◌∷◌, ◌++◌, Option, Some, None, Bool, true, false, length, replicate, inl, inr, refl, sym, ap, subst, ◌∙◌, arith}
use Rattle.std.specs.Prelude.{IsTrue, IsFalse}
use Rattle.std.proofs.lemmas.Bool.{cases_eq}
use Rattle.std.proofs.Math.Nat.{min-le_right}
use Rattle.std.proofs.lemmas.List.{append-nil, append_assoc, replicate-append-replicate}
use Rattle.model.specs.declared.end.End.{End}
use Rattle.model.specs.declared.event.Event.{Event}
use Rattle.model.specs.declared.limits.Limits.{Limits}
use Rattle.model.specs.Classes.{Program}
use Rattle.model.specs.Run.{run}
use Rattle.model.specs.State.{State}
use Rattle.machine.specs.declared.machine.Stopped.{Stopped}
use Rattle.machine.specs.declared.machine.Stopped.TheVariants as stopped
use Rattle.machine.specs.Tops.{plain}
use Rattle.program_runs.specs.continued_runs.Following.{WantsMemory}
use Rattle.program_runs.specs.worlds.Worlds.{WorldOf, IsOfSame, HasRepeated, RepeatsWithin}
use Rattle.place_runs.proofs.Kept.{joined}
use Rattle.place_texts.specs.Places.{PlaceOf, Until}
use Rattle.code_places.specs.declared.points.Point.{Point}
use Rattle.code_places.specs.Points.{all_points}
use Rattle.place_runs.specs.Standing.{is_at}
use Rattle.place_runs.specs.Meaning.{IsAt, IsNotAt, IsNotReached, IsReachedBy}
use Rattle.place_runs.specs.Shown.{IsShownAt}
use Rattle.place_runs.specs.Following.{AreUsedUp}
use Rattle.place_runs.specs.Worlds.{ComesTo, GoesOn, IsStoppedBy}
use Rattle.place_runs.proofs.Repeated.{at_most, many, reached, stopped_by, within}

-- so many events of the thread were done within the budget, and the place was not reached
pub record Going (t : ℕ) (place : PlaceOf) (budget : ℕ) (first w : WorldOf) : Type 0 where
  pub same : IsOfSame first w
  pub on : w.end ≡ None
  pub count : ℕ
  pub done : w.events ≡ first.events ++ replicate count (plain t)
  pub within_budget : (count ≡ 0) ⊎ (length w.events ≤ budget)
  pub not_yet : IsNotReached first.trees first.machine.limits.frames first.events t place count

-- ---- fewer events are left

falls_within : (t n : ℕ) (why : Stopped) (w new : WorldOf) → HasRepeated (plain t) 1 n why w new → (n ≡ 0 → ⊥)
    → new.budget - length new.events < w.budget - length w.events
falls_within t n why w new r some =
    omega (arith, some, many (plain t) 1 n why w new r, within (plain t) 1 n why w new r, r.asked_is, min-le_right 1 (w.budget - length w.events), r.same.budget)

pub falls : (t n : ℕ) (why : Stopped) (w new : WorldOf) → RepeatsWithin (plain t) 1 w.end (n, why) w new → (n ≡ 0 → ⊥)
    → new.budget - length new.events < w.budget - length w.events
falls t n why w new repeats some = by w.end refl
  where
    by : (o : Option End) → w.end ≡ o → new.budget - length new.events < w.budget - length w.events
    by None is = falls_within t n why w new (subst (λ (o : Option End). RepeatsWithin (plain t) 1 o (n, why) w new) is repeats) some
    by (Some end) is =
        let ended : RepeatsWithin (plain t) 1 (Some end) (n, why) w new = subst (λ (o : Option End). RepeatsWithin (plain t) 1 o (n, why) w new) is repeats in
        let both : (n, why) ≡ (0, stopped.Most) = ended.0 in
        absurd (some (ap (λ (p : ℕ × Stopped). p.0) both))

-- the budget is used up
pub gives_up : (t : ℕ) (place : PlaceOf) (budget : ℕ) (first w : WorldOf) → Going t place budget first w → budget ≤ length w.events
    → GoesOn (Some stopped.Most) t place budget first w
gives_up t place budget first w so_far used_up =
    record { same = so_far.same; on = so_far.on; count = so_far.count; done = so_far.done; within = so_far.within_budget; comes = (so_far.not_yet, inl used_up) }

pub begins : (t : ℕ) (place : PlaceOf) (budget : ℕ) (w : WorldOf) → w.end ≡ None → Going t place budget w w
begins t place budget w on =
    record { same = record { trees = refl; budget = refl; limits = refl }; on = on; count = 0; done = sym (append-nil w.events); within_budget = inl refl; not_yet = λ k some few. absurd (omega (arith, some, few)) }

module _ (t : ℕ) (place : PlaceOf) (budget : ℕ) (first w : WorldOf) (so_far : Going t place budget first w) (n : ℕ) (why : Stopped) (new : WorldOf)
    (repeats : RepeatsWithin (plain t) 1 w.end (n, why) w new) where
  abbrev r : HasRepeated (plain t) 1 n why w new
  r = subst (λ o. RepeatsWithin (plain t) 1 o (n, why) w new) so_far.on repeats

  same : IsOfSame first new
  same = joined first w new so_far.same r.same

  longer : new.events ≡ first.events ++ replicate (so_far.count + n) (plain t)
  longer =
      r.events ∙ ap (λ l. l ++ replicate n (plain t)) so_far.done ∙ append_assoc first.events (replicate so_far.count (plain t)) (replicate n (plain t))
      ∙ ap (λ l. first.events ++ l) (replicate-append-replicate so_far.count n (plain t))

  -- no event was done
  pub stops : length w.events ≤ w.budget → n ≡ 0 → (told : Stopped) → told ≡ why → (WantsMemory why → ⊥) → GoesOn (Some told) t place budget first new
  stops inside none told is no_want =
      let zeros : so_far.count + n ≡ so_far.count = omega (arith, none) in
      let stopped : IsStoppedBy (length new.events ≡ new.budget) why new (plain t) = stopped_by (plain t) 1 n why w new r inside (omega (arith, none)) no_want in
      record {
        same = same;
        on = r.on ∙ so_far.on;
        count = so_far.count;
        done = longer ∙ ap (λ k. first.events ++ replicate k (plain t)) zeros;
        within = still so_far.within_budget;
        comes = (so_far.not_yet, subst (λ x. IsStoppedBy (AreUsedUp new.budget budget (Until t place) (length new.events)) x new (plain t)) (sym is) (of_most why stopped));
      }
    where
      still : (so_far.count ≡ 0) ⊎ (length w.events ≤ budget) → (so_far.count ≡ 0) ⊎ (length new.events ≤ budget)
      still (inl no_event) = inl no_event
      still (inr few) = inr (omega (arith, few, none, many (plain t) 1 n why w new r))

      of_most : (x : Stopped) → IsStoppedBy (length new.events ≡ new.budget) x new (plain t)
          → IsStoppedBy (AreUsedUp new.budget budget (Until t place) (length new.events)) x new (plain t)
      of_most stopped.Most h = inr h
      of_most stopped.NotEnabled h = h
      of_most (stopped.Refused told) h = h

  module _ (left : length w.events < budget) (some : n ≡ 0 → ⊥) (points : List Point) (are : points ≡ all_points first.trees place) (b : Bool) (shown : IsShownAt new.machine t points b) where
    once : n ≡ 1
    once = omega (arith, some, at_most (plain t) 1 n why w new r)

    events_are : new.events ≡ first.events ++ replicate (so_far.count + 1) (plain t)
    events_are = longer ∙ ap (λ k. first.events ++ replicate (so_far.count + k) (plain t)) once

    few : length new.events ≤ budget
    few = omega (arith, left, once, many (plain t) 1 n why w new r)

    state : State
    state = r.gone.done.run.lead.state

    is : b ≡ is_at first.trees place r.gone.done.run.lead.state t
    is =
        let points_are : points ≡ all_points w.trees place = are ∙ ap (λ (p : Program). all_points p place) (sym so_far.same.trees) in
        shown r.files w.trees (w.events ++ r.gone.front) r.gone.done place points_are ∙ ap (λ (p : Program). is_at p place r.gone.done.run.lead.state t) so_far.same.trees

    led : run first.trees first.machine.limits.frames (first.events ++ replicate (so_far.count + 1) (plain t)) ≡ Some r.gone.done.run.lead.state
    led =
        ap (run first.trees first.machine.limits.frames) (sym events_are)
        ∙ ap (λ (p : Program). run p first.machine.limits.frames new.events) (sym same.trees)
        ∙ ap (λ (l : Limits). run new.trees l.frames new.events) (sym same.limits)
        ∙ reached (plain t) 1 n why w new r

    -- the place is not reached yet
    pub goes_on : b ≡ false → Going t place budget first new
    goes_on not_there =
        record {
          same = same;
          on = r.on ∙ so_far.on;
          count = so_far.count + 1;
          done = events_are;
          within_budget = inr few;
          not_yet = λ k least few. by k least few (cases_eq k (so_far.count + 1));
        }
      where
        here : IsNotAt first.trees first.machine.limits.frames (first.events ++ replicate (so_far.count + 1) (plain t)) t place
        here = (r.gone.done.run.lead.state, led, sym is ∙ not_there)

        by : (k : ℕ) → 1 ≤ k → k ≤ so_far.count + 1 → (k ≡ so_far.count + 1) ⊎ (k ≡ so_far.count + 1 → ⊥)
            → IsNotAt first.trees first.machine.limits.frames (first.events ++ replicate k (plain t)) t place
        by k least few (inl last) = subst (λ j. IsNotAt first.trees first.machine.limits.frames (first.events ++ replicate j (plain t)) t place) (sym last) here
        by k least few (inr other) = so_far.not_yet k least (omega (arith, few, other))

    -- it is
    pub arrives : b ≡ true → GoesOn None t place budget first new
    arrives there =
        record {
          same = same;
          on = r.on ∙ so_far.on;
          count = so_far.count + 1;
          done = events_are;
          within = inr few;
          comes = record {
            some = omega arith;
            reached = (r.gone.done.run.lead.state, led, sym is ∙ there);
            first = λ k least less. so_far.not_yet k least (omega (arith, less));
          };
        }
