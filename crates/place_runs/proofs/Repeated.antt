-- An event that is done again and again in a world, as far as that goes.
use Rattle.std.proofs.Common.{◌≡◌, ◌⊎◌, ◌<◌, ◌≤◌, ◌+◌, ◌-◌, ℕ, zero, suc, List, [], ◌∷◌, ◌++◌, None, Some, length, replicate, take, drop, inl, inr, refl, sym, ap, subst, ◌∙◌, arith, Bool, false}
use Rattle.std.specs.Prelude.{min}
use Rattle.std.proofs.lemmas.Bool.{cases_lt}
use Rattle.std.proofs.lemmas.List.{append-nil, length-append, length-replicate, take-replicate, drop-replicate}
use Rattle.std.proofs.Math.Seq.{take-append_seam, drop-append_seam}
use Rattle.std.proofs.Math.Nat.{min-le_left, min-le_right, min-eq_left, le-min}
use Rattle.model.specs.declared.end.End.{End}
use Rattle.model.specs.declared.event.Event.{Event}
use Rattle.model.specs.declared.limits.Limits.{Limits}
use Rattle.model.specs.Classes.{Program}
use Rattle.model.specs.LimitStands.{Bounds, bounds_of}
use Rattle.model.specs.Run.{run, is_quiet}
use Rattle.model.specs.State.{State}
use Rattle.machine_state.specs.declared.refusals.EventRefusal.{EventRefusal}
use Rattle.machine_state.specs.declared.refusals.EventRefusal.TheVariants as refusal
use Rattle.machine.specs.declared.machine.Stopped.{Stopped}
use Rattle.machine.specs.declared.machine.Stopped.TheVariants as stopped
use Rattle.machine.specs.machine_replay.Shown.{end_of}
use Rattle.machine.specs.schedule_runs.Done.{OfNext, EndsBy}
use Rattle.machine.proofs.machine_replay.Replayed.{fits}
use Rattle.program_runs.specs.continued_runs.Continuing.{IsCut}
use Rattle.program_runs.specs.continued_runs.Following.{WantsMemory}
use Rattle.program_runs.specs.worlds.Worlds.{WorldOf, HasRepeated}
use Rattle.place_runs.specs.Following.{CannotBeDone}
use Rattle.place_runs.specs.Worlds.{IsStoppedBy}

next_of : (event : Event) (k : ℕ) (P : Event → Type 0) → OfNext (replicate k event) P → (0 < k) × P event
next_of event zero P h = absurd h
next_of event (suc k) P h = (omega arith, h)

is_cut : (told : EventRefusal) (n : ℕ) → (WantsMemory (stopped.Refused told) → ⊥) → IsCut (end_of (stopped.Refused told) n false)
is_cut refusal.Objects n no_want = λ e. absurd cc
is_cut refusal.Cells n no_want = λ e. absurd cc
is_cut refusal.Monitors n no_want = λ e. absurd cc
is_cut refusal.Threads n no_want = λ e. absurd cc
is_cut refusal.LockCount n no_want = λ e. absurd cc
is_cut refusal.Memory n no_want = absurd (no_want refl)

module _ (event : Event) (most n : ℕ) (why : Stopped) (w new : WorldOf) (r : HasRepeated event most n why w new) where
  asked_all : r.asked ≡ n + length r.gone.left
  asked_all =
      let all : r.asked ≡ length (r.gone.front ++ r.gone.left) = sym (length-replicate r.asked event) ∙ ap length r.gone.schedule_is in
      omega (arith, all, r.gone.count, length-append r.gone.front r.gone.left)

  pub within : n ≤ r.asked
  within = omega (arith, asked_all)

  pub at_most : n ≤ most
  at_most = omega (arith, within, r.asked_is, min-le_left most (w.budget - length w.events))

  pub front_is : r.gone.front ≡ replicate n event
  front_is =
      sym (take-append_seam r.gone.front r.gone.left) ∙ ap (take (length r.gone.front)) (sym r.gone.schedule_is) ∙ ap (λ k. take k (replicate r.asked event)) (sym r.gone.count)
      ∙ take-replicate n r.asked event within

  left_is : r.gone.left ≡ replicate (r.asked - n) event
  left_is =
      sym (drop-append_seam r.gone.front r.gone.left) ∙ ap (drop (length r.gone.front)) (sym r.gone.schedule_is) ∙ ap (λ k. drop k (replicate r.asked event)) (sym r.gone.count)
      ∙ drop-replicate n r.asked event

  pub many : length new.events ≡ length w.events + n
  many = ap length r.events ∙ length-append w.events (replicate n event) ∙ ap (λ k. length w.events + k) (length-replicate n event)

  events_are : w.events ++ r.gone.front ≡ new.events
  events_are = ap (λ l. w.events ++ l) front_is ∙ sym r.events

  -- to it the events led that were done
  pub reached : run new.trees new.machine.limits.frames new.events ≡ Some r.gone.done.run.lead.state
  reached =
      let here : run w.trees new.machine.limits.frames (w.events ++ r.gone.front) ≡ Some r.gone.done.run.lead.state = r.gone.done.run.lead.reached in
      let by_events : run w.trees new.machine.limits.frames new.events ≡ Some r.gone.done.run.lead.state = ap (run w.trees new.machine.limits.frames) (sym events_are) ∙ here in
      ap (λ (t : Program). run t new.machine.limits.frames new.events) r.same.trees ∙ by_events

  below : 0 < r.asked - n → length new.events < new.budget
  below some = omega (arith, some, r.asked_is, min-le_right most (w.budget - length w.events), many, r.same.budget)

  cannot : (x : Stopped) → EndsBy x w.trees (bounds_of new.machine.limits) r.gone.done.run.lead.state (w.events ++ r.gone.front) (event ∷ [])
      → (quiet : Bool) → quiet ≡ is_quiet w.trees new.machine.limits.frames r.gone.done.run.lead.state → IsCut (end_of x (length (w.events ++ r.gone.front)) quiet)
      → CannotBeDone new.trees new.machine.limits new.events event
  cannot x ends quiet quiet_is cut =
      let here : CannotBeDone w.trees new.machine.limits (w.events ++ r.gone.front) event = record {
        state = r.gone.done.run.lead.state;
        reached = r.gone.done.run.lead.reached;
        end = end_of x (length (w.events ++ r.gone.front)) quiet;
        cut = cut;
        fits = fits w.trees (bounds_of new.machine.limits) r.gone.done.run.lead.state (w.events ++ r.gone.front) x (length (w.events ++ r.gone.front)) quiet (event ∷ []) refl quiet_is ends;
      } in
      let by_events : CannotBeDone w.trees new.machine.limits new.events event = subst (λ l. CannotBeDone w.trees new.machine.limits l event) events_are here in
      subst (λ (t : Program). CannotBeDone t new.machine.limits new.events event) (sym r.same.trees) by_events

  module _ (inside : length w.events ≤ w.budget) (less : n < most) where
    used_up : r.gone.left ≡ [] → length new.events ≡ new.budget
    used_up none =
        let nothing : length r.gone.left ≡ 0 = ap length none in
        by_order (cases_lt (w.budget - length w.events) most)
      where
        by_order : (w.budget - length w.events < most) ⊎ (most ≤ w.budget - length w.events) → length new.events ≡ new.budget
        by_order (inl lt) =
            let nothing : length r.gone.left ≡ 0 = ap length none in
            let least : w.budget - length w.events ≤ min most (w.budget - length w.events) = le-min (omega (arith, lt)) (omega arith) in
            omega (arith, inside, many, asked_all, nothing, r.asked_is, least, min-le_right most (w.budget - length w.events), r.same.budget)
        by_order (inr le) =
            let nothing : length r.gone.left ≡ 0 = ap length none in
            absurd (omega (arith, r.asked_is ∙ min-eq_left le, asked_all, nothing, less))

    by_why : (x : Stopped) → (WantsMemory x → ⊥) → EndsBy x w.trees (bounds_of new.machine.limits) r.gone.done.run.lead.state (w.events ++ r.gone.front) r.gone.left → IsStoppedBy (length new.events ≡ new.budget) x new event
    by_why stopped.Most no_want ends = used_up ends
    by_why stopped.NotEnabled no_want ends =
        let next = next_of event (r.asked - n) _ (subst (λ l. EndsBy stopped.NotEnabled w.trees (bounds_of new.machine.limits) r.gone.done.run.lead.state (w.events ++ r.gone.front) l) left_is ends) in
        (below next.0, cannot stopped.NotEnabled next.1 (is_quiet w.trees new.machine.limits.frames r.gone.done.run.lead.state) refl tt)
    by_why (stopped.Refused told) no_want ends =
        let next = next_of event (r.asked - n) _ (subst (λ l. EndsBy (stopped.Refused told) w.trees (bounds_of new.machine.limits) r.gone.done.run.lead.state (w.events ++ r.gone.front) l) left_is ends) in
        let cut : IsCut (end_of (stopped.Refused told) (length (w.events ++ r.gone.front)) false) = is_cut told (length (w.events ++ r.gone.front)) no_want in
        (below next.0, cannot (stopped.Refused told) next.1 (is_quiet w.trees new.machine.limits.frames r.gone.done.run.lead.state) refl cut)

    pub stopped_by : (WantsMemory why → ⊥) → IsStoppedBy (length new.events ≡ new.budget) why new event
    stopped_by no_want = by_why why no_want r.gone.ends
