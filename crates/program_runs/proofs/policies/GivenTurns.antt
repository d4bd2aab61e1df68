-- An event that is done if it can be; and a turn that may be such an event.
use Rattle.std.proofs.Common.{◌≡◌, ◌⊎◌, inl, inr, ◌<◌, ◌≤◌, ◌-◌, ℕ, zero, suc, List, [], ◌∷◌, ◌++◌, Some, None, Bool, true, false, ◌&&◌, length, replicate, refl, sym, subst, ◌∙◌, arith}
use Rattle.std.specs.Prelude.{IsFalse, IsTrue, if◌then◌else◌, min, nat_lt}
use Rattle.std.proofs.Math.Nat.{min-eq_left}
use Rattle.std.proofs.lemmas.Bool.Decides.{nat_tests}
use Rattle.std.proofs.lemmas.List.{append-nil, length-append}
use Rattle.std.proofs.lemmas.Option.{same_Some}
use Rattle.model.specs.declared.end.RunCause.TheVariants as cause
use Rattle.model.specs.declared.event.Event.{Event}
use Rattle.model.specs.declared.limits.Limits.{Limits}
use Rattle.model.specs.Classes.{Program}
use Rattle.model.specs.LimitStands.{bounds_of}
use Rattle.model.specs.Run.{may_step, run}
use Rattle.model.specs.State.{State}
use Rattle.model.specs.Step.{is_enabled}
use Rattle.machine_state.specs.declared.refusals.EventRefusal.{EventRefusal}
use Rattle.machine_state.specs.declared.refusals.EventRefusal.TheVariants as refusal
use Rattle.machine_state.specs.shown_runs.Runs.{IsRefusedAfter}
use Rattle.machine.specs.declared.machine.Stopped.{Stopped}
use Rattle.machine.specs.declared.machine.Stopped.TheVariants as stopped
use Rattle.machine.specs.schedule_runs.Done.{EndsBy}
use Rattle.program_runs.specs.continued_runs.Following.{WantsMemory}
use Rattle.program_runs.specs.policies.PolicyTurns.{DoesEvent, DoesTurn, IsAble, IsOn, IsOver, IsShort, PicksTurn}
use Rattle.program_runs.specs.policies.Runs.{can_do, with_picked, with_turn}
use Rattle.program_runs.specs.worlds.Worlds.{WorldOf, Holds, HasRepeated, RepeatsWithin}
use Rattle.program_runs.proofs.worlds.Repeating.{repeated_of}
use Rattle.program_runs.proofs.policies.OneTurn.{all_done, ends_by, next_left, reached, room, state, within, within_most}
use Rattle.program_runs.proofs.policies.TurnEvents.{can_in_front, cant_at_limit, cant_past_budget, cant_where_not_enabled}

-- ---- one event

module _ (event : Event) (why : Stopped) (w v : WorldOf) (holds : Holds w) (on : v.end ≡ None) (memory : WantsMemory why → ⊥) where
  none_done : HasRepeated event 1 0 why w v → DoesEvent event false w v
  none_done r = (cant why memory (ends_by event 1 0 why w v holds r), r.same, r.events ∙ append-nil w.events, on)
    where
      events : w.events ++ replicate 0 event ≡ w.events
      events = append-nil w.events

      at : run w.trees w.machine.limits.frames w.events ≡ Some (state event 1 0 why w v holds r)
      at = subst (λ l. run w.trees w.machine.limits.frames l ≡ Some (state event 1 0 why w v holds r)) events (reached event 1 0 why w v holds r)

      no_room : (0 ≡ min 1 (w.budget - length w.events)) → w.budget ≤ length w.events
      no_room e = by (w.budget - length w.events) refl e
        where
          by : (k : ℕ) → w.budget - length w.events ≡ k → 0 ≡ min 1 k → w.budget ≤ length w.events
          by zero is e = omega (arith, is)
          by (suc k) is e = let one : min 1 (suc k) ≡ 1 = min-eq_left (omega arith) in absurd (omega (arith, e, one))

      at_limit : (told : EventRefusal) → (WantsMemory (stopped.Refused told) → ⊥) → IsRefusedAfter w.trees (bounds_of w.machine.limits) w.events event told
          → can_do w.trees (bounds_of w.machine.limits) w.budget w.events event ≡ false
      at_limit refusal.Objects given after = cant_at_limit w.trees (bounds_of w.machine.limits) w.budget w.events event _ at cause.Objects after
      at_limit refusal.Cells given after = cant_at_limit w.trees (bounds_of w.machine.limits) w.budget w.events event _ at cause.Cells after
      at_limit refusal.Monitors given after = cant_at_limit w.trees (bounds_of w.machine.limits) w.budget w.events event _ at cause.Monitors after
      at_limit refusal.Threads given after = cant_at_limit w.trees (bounds_of w.machine.limits) w.budget w.events event _ at cause.Threads after
      at_limit refusal.LockCount given after = cant_at_limit w.trees (bounds_of w.machine.limits) w.budget w.events event _ at cause.LockCount after
      at_limit refusal.Memory given after = absurd (given refl)

      cant : (y : Stopped) → (WantsMemory y → ⊥) → EndsBy y w.trees (bounds_of w.machine.limits) (state event 1 0 why w v holds r) (w.events ++ replicate 0 event) r.gone.left
          → can_do w.trees (bounds_of w.machine.limits) w.budget w.events event ≡ false
      cant stopped.Most given by = cant_past_budget w.trees (bounds_of w.machine.limits) w.budget w.events event (no_room (all_done event 1 0 why w v holds r by))
      cant stopped.NotEnabled given by =
          cant_where_not_enabled w.trees (bounds_of w.machine.limits) w.budget w.events event _ at
          (next_left event 1 0 why w v holds r (λ e. IsFalse (is_enabled w.trees w.machine.limits.frames (state event 1 0 why w v holds r) e)) by)
      cant (stopped.Refused told) given by =
          at_limit told given
          (subst (λ l. IsRefusedAfter w.trees (bounds_of w.machine.limits) l event told) events
          (next_left event 1 0 why w v holds r
          (λ e. IsTrue (is_enabled w.trees w.machine.limits.frames (state event 1 0 why w v holds r) e) × IsRefusedAfter w.trees (bounds_of w.machine.limits) (w.events ++ replicate 0 event) e told) by).1)

  some_done : HasRepeated event 1 1 why w v → DoesEvent event true w v
  some_done r = (
    can_in_front w.trees (bounds_of w.machine.limits) w.budget w.events [] event _ (reached event 1 1 why w v holds r) (within event 1 1 why w v holds r)
        (omega (arith, room event 1 1 why w v holds r)),
    record {
      same = record { trees = r.same.trees; budget = r.same.budget; limits = r.same.limits };
      how = inl (record { events = r.events; more = omega (arith, length-append w.events (event ∷ [])); on = on });
    },
  )

  by_count : (n : ℕ) → HasRepeated event 1 n why w v → DoesEvent event (nat_lt 0 n) w v
  by_count zero r = none_done r
  by_count (suc zero) r = some_done r
  by_count (suc (suc n)) r = absurd (omega (arith, within_most event 1 (suc (suc n)) why w v holds r))

pub event_done : (event : Event) (n : ℕ) (why : Stopped) (w v : WorldOf) → Holds w → w.end ≡ None → (WantsMemory why → ⊥) → RepeatsWithin event 1 w.end (n, why) w v
    → DoesEvent event (nat_lt 0 n) w v
event_done event n why w v holds on memory repeats =
    let r : HasRepeated event 1 n why w v = repeated_of event 1 n why w w v v on refl refl repeats in
    by_count event why w v holds (r.on ∙ on) memory n r

-- ---- an event that is all of a turn

pub picks : (t pick : ℕ) (done : Bool) (w v : WorldOf) → 0 < pick → DoesEvent (record { thread = t; pick = pick }) done w v → PicksTurn t pick done w v
picks t pick true w v some does = (some, does)
picks t pick false w v some does = (both_no (nat_lt 0 pick) _ does.0, does.1, does.2, does.3)
  where
    both_no : (a b : Bool) → b ≡ false → (a && b) ≡ false
    both_no true b e = e
    both_no false b e = refl

pub picks_none : (t pick : ℕ) (w : WorldOf) → w.end ≡ None → pick ≡ 0 → PicksTurn t pick false w w
picks_none t pick w on none =
    let zero_is : nat_lt 0 pick ≡ false = grind (arith, nat_tests, none) in
    (left_no (nat_lt 0 pick) _ zero_is, record { trees = refl; budget = refl; limits = refl }, refl, on)
  where
    left_no : (a b : Bool) → a ≡ false → (a && b) ≡ false
    left_no false b e = refl
    left_no true b e = absurd cc

module _ (t pick most : ℕ) (w v : WorldOf) where
  abbrev event : Event
  event = record { thread = t; pick = pick }

  abbrev picked : List Event
  picked = with_picked w.trees (bounds_of w.machine.limits) w.budget pick most t w.events

  pub is_picked : PicksTurn t pick true w v → DoesTurn picked w v
  is_picked is =
      let some : nat_lt 0 pick ≡ true = grind (arith, nat_tests, is.0) in
      subst (λ l. DoesTurn l w v) (sym (whole (nat_lt 0 pick) (can_do w.trees (bounds_of w.machine.limits) w.budget w.events event) some is.1.0)) is.1.1
    where
      whole : (a b : Bool) → a ≡ true → b ≡ true
          → (if a && b then w.events ++ event ∷ [] else with_turn w.trees (bounds_of w.machine.limits) w.budget most t w.events) ≡ w.events ++ event ∷ []
      whole true true p q = refl
      whole true false p q = absurd cc
      whole false b p q = absurd cc

  module _ (new : WorldOf) (is : PicksTurn t pick false w v) where
    moved : (all : List Event) → DoesTurn all v new → DoesTurn all w new
    moved all does = record { same = record { trees = does.same.trees ∙ is.1.trees; budget = does.same.budget ∙ is.1.budget; limits = does.same.limits ∙ is.1.limits }; how = by does.how }
      where
        by : IsOn all v new ⊎ IsOver all v new ⊎ IsShort all v new → IsOn all w new ⊎ IsOver all w new ⊎ IsShort all w new
        by (inl h) = inl (record { events = h.events; more = subst (λ l. length l < length all) is.2 h.more; on = h.on })
        by (inr (inl h)) = inr (inl (record { none = h.none ∙ is.2; events = h.events ∙ is.2; end = h.end; is = h.is }))
        by (inr (inr h)) = inr (inr (record { left = h.left; front = h.front; end = h.end; is = h.is; wants = h.wants }))

    -- not picked: a turn
    pub not_picked : DoesTurn (with_turn v.trees (bounds_of v.machine.limits) v.budget most t v.events) v new → DoesTurn picked w new
    not_picked does =
        let of_v : DoesTurn (with_turn v.trees (bounds_of v.machine.limits) v.budget most t v.events) w new = moved _ does in
        let trees : DoesTurn (with_turn w.trees (bounds_of v.machine.limits) v.budget most t v.events) w new =
        subst (λ (p : Program). DoesTurn (with_turn p (bounds_of v.machine.limits) v.budget most t v.events) w new) is.1.trees of_v
        in
        let limits : DoesTurn (with_turn w.trees (bounds_of w.machine.limits) v.budget most t v.events) w new =
        subst (λ (l : Limits). DoesTurn (with_turn w.trees (bounds_of l) v.budget most t v.events) w new) is.1.limits trees
        in
        let budget : DoesTurn (with_turn w.trees (bounds_of w.machine.limits) w.budget most t v.events) w new =
        subst (λ b. DoesTurn (with_turn w.trees (bounds_of w.machine.limits) b most t v.events) w new) is.1.budget limits
        in
        let events : DoesTurn (with_turn w.trees (bounds_of w.machine.limits) w.budget most t w.events) w new =
        subst (λ l. DoesTurn (with_turn w.trees (bounds_of w.machine.limits) w.budget most t l) w new) is.2 budget
        in
        subst (λ l. DoesTurn l w new) (sym (rest (nat_lt 0 pick && can_do w.trees (bounds_of w.machine.limits) w.budget w.events event) is.0)) events
      where
        rest : (b : Bool) → b ≡ false
            → (if b then w.events ++ event ∷ [] else with_turn w.trees (bounds_of w.machine.limits) w.budget most t w.events)
            ≡ with_turn w.trees (bounds_of w.machine.limits) w.budget most t w.events
        rest false e = refl
        rest true e = absurd cc

-- the thread may go on still
pub able_still : (t pick : ℕ) (w v : WorldOf) → PicksTurn t pick false w v → Holds w → IsAble w t → IsAble v t
able_still t pick w v is before able holds =
    let state : State = holds.done.run.lead.state in
    let here : run w.trees w.machine.limits.frames w.events ≡ Some state =
    subst (λ l. run w.trees w.machine.limits.frames l ≡ Some state) is.2
    (subst (λ (l : Limits). run w.trees l.frames v.events ≡ Some state) is.1.limits
    (subst (λ (p : Program). run p v.machine.limits.frames v.events ≡ Some state) is.1.trees holds.done.run.lead.reached))
    in
    let same : before.done.run.lead.state ≡ state = same_Some before.done.run.lead.state state (sym before.done.run.lead.reached ∙ here) in
    let may : IsTrue (may_step w.trees w.machine.limits.frames state t) = subst (λ s. IsTrue (may_step w.trees w.machine.limits.frames s t)) same (able before).0 in (
      subst (λ (p : Program). IsTrue (may_step p v.machine.limits.frames state t)) (sym is.1.trees)
          (subst (λ (l : Limits). IsTrue (may_step w.trees l.frames state t)) (sym is.1.limits) may),
      subst (λ (s : State). t < length s.world.threads) same (able before).1,
    )
