-- A turn of a thread in a world.
use Rattle.std.proofs.Common.{◌≡◌, ◌⊎◌, inl, inr, ◌<◌, ◌≤◌, ◌+◌, ◌-◌, ℕ, zero, suc, List, [], ◌∷◌, ◌++◌, Option, Some, None, Bool, true, false, length, replicate, take, refl, sym, ap, subst, ◌∙◌, arith}
use Rattle.std.specs.Prelude.{◌==◌, IsFalse, IsTrue, if◌then◌else◌, min, not}
use Rattle.std.specs.List.{list_all}
use Rattle.std.proofs.Math.Decide.{dec_lt}
use Rattle.std.proofs.Math.Nat.{min-eq_left, min-eq_right, min-le_left, min-le_right}
use Rattle.std.proofs.Math.Seq.{take-append_seam}
use Rattle.std.proofs.lemmas.Bool.Decides.{nat_tests}
use Rattle.std.proofs.lemmas.Option.{same_Some}
use Rattle.std.proofs.lemmas.List.{append-nil, length-append, length-replicate, take-replicate}
use Rattle.model.specs.declared.end.End.{End}
use Rattle.model.specs.declared.end.End.TheVariants as ends
use Rattle.model.specs.declared.end.RunCause.{RunCause}
use Rattle.model.specs.declared.end.RunCause.TheVariants as cause
use Rattle.model.specs.declared.event.Event.{Event}
use Rattle.model.specs.declared.limits.Limits.{Limits}
use Rattle.model.specs.Classes.{Program}
use Rattle.model.specs.LimitStands.{Bounds, bounds_of, limit_after, within_limits}
use Rattle.model.specs.Rows.{counting}
use Rattle.model.specs.Run.{is_quiet, may_step, run}
use Rattle.model.specs.State.{State}
use Rattle.model.specs.Step.{is_enabled}
use Rattle.machine_state.specs.declared.refusals.EventRefusal.{EventRefusal}
use Rattle.machine_state.specs.declared.refusals.EventRefusal.TheVariants as refusal
use Rattle.machine_state.specs.Refusals.{cause_of}
use Rattle.machine_state.specs.shown_runs.Runs.{IsRefusedAfter}
use Rattle.machine.specs.declared.machine.Stopped.{Stopped}
use Rattle.machine.specs.declared.machine.Stopped.TheVariants as stopped
use Rattle.machine.specs.Tops.{plain}
use Rattle.machine.specs.schedule_runs.Done.{OfNext, EndsBy}
use Rattle.machine.specs.machine_replay.Replays.{IsRefusedFor}
use Rattle.machine.proofs.machine_replay.Replayed.{refused_for}
use Rattle.program_runs.specs.policies.PolicyTurns.{DoesTurn, IsAble, turn_end}
use Rattle.program_runs.specs.policies.Runs.{can_do, with_turn}
use Rattle.program_runs.specs.worlds.Worlds.{WorldOf, Holds, HasRepeated}
use Rattle.program_runs.proofs.policies.TurnEvents.{cant_at_limit, cant_past_budget, cant_where_not_enabled, stops, turn_appends, turn_front, turn_is}

-- ---- an event that was done again and again

module _ (event : Event) (most n : ℕ) (why : Stopped) (w v : WorldOf) (holds : Holds w) (r : HasRepeated event most n why w v) where
  asked_is : length r.gone.front + length r.gone.left ≡ r.asked
  asked_is = sym (sym (length-replicate r.asked event) ∙ ap length r.gone.schedule_is ∙ length-append r.gone.front r.gone.left)

  few : n ≤ r.asked
  few = omega (arith, asked_is, r.gone.count)

  front_is : r.gone.front ≡ replicate n event
  front_is =
      sym (take-append_seam r.gone.front r.gone.left) ∙ ap (take (length r.gone.front)) (sym r.gone.schedule_is) ∙ ap (λ k. take k (replicate r.asked event)) (sym r.gone.count)
      ∙ take-replicate n r.asked event few

  abbrev done : List Event
  done = w.events ++ replicate n event

  done_is : done ≡ w.events ++ r.gone.front
  done_is = ap (λ l. w.events ++ l) (sym front_is)

  pub count_is : length done ≡ length w.events + n
  count_is = length-append w.events (replicate n event) ∙ ap (λ k. length w.events + k) (length-replicate n event)

  pub within_budget : r.asked ≤ w.budget - length w.events
  within_budget = subst (λ k. k ≤ w.budget - length w.events) (sym r.asked_is) (min-le_right most (w.budget - length w.events))

  pub within_most : n ≤ most
  within_most = let all = subst (λ k. k ≤ most) (sym r.asked_is) (min-le_left most (w.budget - length w.events)) in omega (arith, all, few)

  pub room : length w.events + n ≤ w.budget
  room = omega (arith, few, within_budget, holds.within)

  abbrev pub bounds : Bounds
  bounds = bounds_of w.machine.limits

  abbrev pub state : State
  state = r.gone.done.run.lead.state

  pub reached : run w.trees bounds.frames done ≡ Some state
  reached =
      subst (λ l. run w.trees bounds.frames l ≡ Some state) (sym done_is)
      (subst (λ (l : Limits). run w.trees l.frames (w.events ++ r.gone.front) ≡ Some state) r.same.limits r.gone.done.run.lead.reached)

  pub within : within_limits w.trees bounds done ≡ true
  within =
      subst (λ l. within_limits w.trees bounds l ≡ true) (sym done_is)
      (subst (λ (l : Limits). within_limits w.trees (bounds_of l) (w.events ++ r.gone.front) ≡ true) r.same.limits r.gone.done.run.lead.within)

  -- why no more
  pub ends_by : EndsBy why w.trees bounds state done r.gone.left
  ends_by =
      subst (λ l. EndsBy why w.trees bounds state l r.gone.left) (sym done_is)
      (subst (λ (l : Limits). EndsBy why w.trees (bounds_of l) state (w.events ++ r.gone.front) r.gone.left) r.same.limits r.gone.ends)

  -- some were left
  pub some_left : (P : Event → Type 0) → OfNext r.gone.left P → n < r.asked
  some_left P is = by r.gone.left is (omega (arith, asked_is, r.gone.count))
    where
      by : (l : List Event) → OfNext l P → n + length l ≡ r.asked → n < r.asked
      by [] is e = absurd is
      by (x ∷ l) is e = omega (arith, e)

  -- those left are of the event
  pub next_left : (P : Event → Type 0) → OfNext r.gone.left P → P event
  next_left P is = by r.gone.left is r.asked r.gone.front r.gone.schedule_is
    where
      first_of : (l : List Event) (x : Event) (k : ℕ) (front : List Event) → replicate k event ≡ front ++ x ∷ l → event ≡ x
      first_of l x zero [] e = absurd cc
      first_of l x zero (y ∷ front) e = absurd cc
      first_of l x (suc k) [] e = cc
      first_of l x (suc k) (y ∷ front) e = let rest : replicate k event ≡ front ++ x ∷ l = cc in first_of l x k front rest

      by : (l : List Event) → OfNext l P → (k : ℕ) (front : List Event) → replicate k event ≡ front ++ l → P event
      by [] is k front e = absurd is
      by (x ∷ l) is k front e = subst P (sym (first_of l x k front e)) is

  -- none is left: as many were done as may be
  pub all_done : r.gone.left ≡ [] → n ≡ min most (w.budget - length w.events)
  all_done none = omega (arith, asked_is, r.gone.count, ap length none) ∙ r.asked_is

least_is : (a b : ℕ) → (min a b ≡ a) ⊎ (min a b ≡ b)
least_is a b = by (dec_lt a b)
  where
    by : Dec (a < b) → (min a b ≡ a) ⊎ (min a b ≡ b)
    by (yes lt) = let le : a ≤ b = omega (arith, lt) in inl (min-eq_left le)
    by (no ge) = let le : b ≤ a = omega (arith, ge) in inr (min-eq_right le)

-- ---- a turn that begins with no event

not_true : (b : Bool) → b ≡ true → not b ≡ false
not_true true e = refl
not_true false e = absurd cc

one_fails : (p : ℕ → Bool) (k n t : ℕ) → k ≤ t → t < k + n → p t ≡ false → list_all p (counting k n) ≡ false
one_fails p k zero t low high fails = absurd (omega (arith, low, high))
one_fails p k (suc n) t low high fails = by (dec_lt k t) (p k) refl (λ above. one_fails p (suc k) n t above (omega (arith, high)) fails)
  where
    by : Dec (k < t) → (b : Bool) → p k ≡ b → (suc k ≤ t → list_all p (counting (suc k) n) ≡ false) → list_all p (counting k (suc n)) ≡ false
    by above false e later = cc
    by (yes lt) true e later = let others : list_all p (counting (suc k) n) ≡ false = later (omega (arith, lt)) in cc
    by (no ge) true e later =
        let same : k ≡ t = omega (arith, low, ge) in
        let bad : true ≡ false = sym e ∙ ap p same ∙ fails in
        absurd cc

module _ (t most : ℕ) (w : WorldOf) (holds : Holds w) (able : IsAble w t) where
  not_quiet : is_quiet w.trees w.machine.limits.frames holds.done.run.lead.state ≡ false
  not_quiet =
      let is = able holds in
      one_fails (λ u. not (may_step w.trees w.machine.limits.frames holds.done.run.lead.state u)) 0 (length holds.done.run.lead.state.world.threads) t (omega arith) (omega (arith, is.1))
      (not_true (may_step w.trees w.machine.limits.frames holds.done.run.lead.state t) is.0)

  pub holds_at_budget : length w.events ≡ w.budget → Holds (record w { end = Some ends.Budget })
  holds_at_budget all = record { files = holds.files; done = holds.done; within = holds.within; fits = (all, not_quiet) }

  pub does_at_budget : length w.events ≡ w.budget
      → DoesTurn (with_turn w.trees (bounds_of w.machine.limits) w.budget most t w.events) w (record w { end = Some ends.Budget })
  does_at_budget all =
      record {
        same = record { trees = refl; budget = refl; limits = refl };
        how = inr (inl (record {
          none = stops w.trees (bounds_of w.machine.limits) w.budget t most w.events
              (inr (cant_past_budget w.trees (bounds_of w.machine.limits) w.budget w.events (plain t) (omega (arith, all))));
          events = refl;
          end = ends.Budget;
          is = refl;
        }));
      }

  module _ (other : length w.events ≡ w.budget → ⊥) (i : ℕ) (count : i ≡ length w.events) (v : WorldOf) (same : v ≡ w) where
    pub holds_for_memory : Holds (record v { end = Some (ends.Refused i cause.Memory) })
    holds_for_memory =
        let below : i < w.budget = omega (arith, holds.within, other, count) in
        subst (λ (x : WorldOf). Holds (record x { end = Some (ends.Refused i cause.Memory) })) (sym same)
        (record { files = holds.files; done = holds.done; within = holds.within; fits = (count, below, (plain t, (able holds).0, tt)) })

    pub does_for_memory : DoesTurn (with_turn w.trees (bounds_of w.machine.limits) w.budget most t w.events) w (record v { end = Some (ends.Refused i cause.Memory) })
    does_for_memory =
        let rest = turn_appends w.trees (bounds_of w.machine.limits) w.budget most t w.events in
        subst (λ (x : WorldOf). DoesTurn (with_turn w.trees (bounds_of w.machine.limits) w.budget most t w.events) w (record x { end = Some (ends.Refused i cause.Memory) })) (sym same)
        (record {
          same = record { trees = refl; budget = refl; limits = refl };
          how = inr (inr (record { left = rest.0; front = rest.1; end = ends.Refused i cause.Memory; is = refl; wants = (i, refl) }));
        })

-- ---- a turn

module _ (t most n : ℕ) (why : Stopped) (w v : WorldOf) (holds : Holds w) (able : IsAble w t) (some : 1 ≤ most)
    (other : length w.events ≡ w.budget → ⊥) (r : HasRepeated (plain t) most n why w v) where
  abbrev all : List Event
  all = with_turn w.trees (bounds_of w.machine.limits) w.budget most t w.events

  abbrev front : List Event
  front = w.events ++ replicate n (plain t)

  abbrev last : State
  last = state (plain t) most n why w v holds r

  abbrev frames : ℕ
  frames = w.machine.limits.frames

  all_is : (n ≡ most) ⊎ (can_do w.trees (bounds_of w.machine.limits) w.budget front (plain t) ≡ false) → all ≡ v.events
  all_is stops =
      turn_is w.trees (bounds_of w.machine.limits) w.budget t most n w.events last (within_most (plain t) most n why w v holds r)
      (reached (plain t) most n why w v holds r) (within (plain t) most n why w v holds r) (room (plain t) most n why w v holds r) stops
      ∙ sym r.events

  -- the thread may go on, so one event is done, or it is refused
  some_by_may : (is_enabled w.trees frames last (plain t) ≡ false) → 0 < n
  some_by_may not = by n refl
    where
      by : (k : ℕ) → n ≡ k → 0 < n
      by (suc k) e = omega (arith, e)
      by zero e =
          let before : run w.trees frames w.events ≡ Some last =
          subst (λ l. run w.trees frames l ≡ Some last) (ap (λ k. w.events ++ replicate k (plain t)) e ∙ append-nil w.events) (reached (plain t) most n why w v holds r)
          in
          let same : holds.done.run.lead.state ≡ last = same_Some holds.done.run.lead.state last (sym holds.done.run.lead.reached ∙ before) in
          let may : is_enabled w.trees frames holds.done.run.lead.state (plain t) ≡ true = (able holds).0 in
          let bad : true ≡ false = sym (subst (λ s. is_enabled w.trees frames s (plain t) ≡ true) same may) ∙ not in
          absurd cc

  some_by_room : n ≡ min most (w.budget - length w.events) → 0 < n
  some_by_room is = by (least_is most (w.budget - length w.events))
    where
      by : (min most (w.budget - length w.events) ≡ most) ⊎ (min most (w.budget - length w.events) ≡ w.budget - length w.events) → 0 < n
      by (inl e) = omega (arith, is, e, some)
      by (inr e) = omega (arith, is, e, holds.within, other)

  module _ (end : Option End) where
    abbrev new : WorldOf
    new = record v { end = end }

    does_on : all ≡ v.events → 0 < n → end ≡ None → DoesTurn all w new
    does_on whole more none =
        record {
          same = record { trees = r.same.trees; budget = r.same.budget; limits = r.same.limits };
          how = inl (record {
            events = sym whole;
            more = omega (arith, ap length whole, ap length r.events, count_is (plain t) most n why w v holds r, more);
            on = none;
          });
        }

    does_none : all ≡ v.events → n ≡ 0 → (e : End) → end ≡ Some e → DoesTurn all w new
    does_none whole none e is =
        let still : v.events ≡ w.events = r.events ∙ ap (λ k. w.events ++ replicate k (plain t)) none ∙ append-nil w.events in
        record {
          same = record { trees = r.same.trees; budget = r.same.budget; limits = r.same.limits };
          how = inr (inl (record { none = whole ∙ still; events = still; end = e; is = is }));
        }

    -- at a limit
    does_limited : (cause : RunCause) → limit_after w.trees (bounds_of w.machine.limits) front (plain t) ≡ Some cause → (e : End) → end ≡ (if n == 0 then Some e else None)
        → DoesTurn all w new
    does_limited cause stands e is = by (n == 0) refl is
      where
        whole : all ≡ v.events
        whole = all_is (inr (cant_at_limit w.trees (bounds_of w.machine.limits) w.budget front (plain t) last (reached (plain t) most n why w v holds r) cause stands))

        by : (b : Bool) → (n == 0) ≡ b → end ≡ (if b then Some e else None) → DoesTurn all w new
        by true zero_is is = does_none whole (grind (arith, nat_tests, zero_is)) e is
        by false zero_is is = let more : 0 < n = grind (arith, nat_tests, zero_is) in does_on whole more is

    does_refused : (told : EventRefusal) → IsRefusedAfter w.trees (bounds_of w.machine.limits) front (plain t) told → (count : ℕ)
        → end ≡ turn_end (stopped.Refused told) count n → DoesTurn all w new
    does_refused refusal.Objects after count is = does_limited cause.Objects after (ends.Refused count cause.Objects) is
    does_refused refusal.Cells after count is = does_limited cause.Cells after (ends.Refused count cause.Cells) is
    does_refused refusal.Monitors after count is = does_limited cause.Monitors after (ends.Refused count cause.Monitors) is
    does_refused refusal.Threads after count is = does_limited cause.Threads after (ends.Refused count cause.Threads) is
    does_refused refusal.LockCount after count is = does_limited cause.LockCount after (ends.Refused count cause.LockCount) is
    does_refused refusal.Memory after count is =
        let rest = turn_front w.trees (bounds_of w.machine.limits) w.budget t most n w.events last (within_most (plain t) most n why w v holds r)
        (reached (plain t) most n why w v holds r) (within (plain t) most n why w v holds r) (room (plain t) most n why w v holds r) in
        record {
          same = record { trees = r.same.trees; budget = r.same.budget; limits = r.same.limits };
          how = inr (inr (record {
            left = rest.0;
            front = rest.1 ∙ ap (λ l. l ++ rest.0) (sym r.events);
            end = ends.Refused count cause.Memory;
            is = is;
            wants = (count, refl);
          }));
        }

    does_by : (y : Stopped) → EndsBy y w.trees (bounds_of w.machine.limits) last front r.gone.left → (count : ℕ) → end ≡ turn_end y count n → DoesTurn all w new
    does_by stopped.Most by count is =
        let least = all_done (plain t) most n why w v holds r by in
        does_on (all_is (whole (least_is most (w.budget - length w.events)) least)) (some_by_room least) is
      where
        whole : (min most (w.budget - length w.events) ≡ most) ⊎ (min most (w.budget - length w.events) ≡ w.budget - length w.events) → n ≡ min most (w.budget - length w.events)
            → (n ≡ most) ⊎ (can_do w.trees (bounds_of w.machine.limits) w.budget front (plain t) ≡ false)
        whole (inl e) least = inl (least ∙ e)
        whole (inr e) least =
            inr (cant_past_budget w.trees (bounds_of w.machine.limits) w.budget front (plain t)
            (omega (arith, count_is (plain t) most n why w v holds r, least, e, holds.within)))
    does_by stopped.NotEnabled by count is =
        let not : is_enabled w.trees frames last (plain t) ≡ false = next_left (plain t) most n why w v holds r (λ e. IsFalse (is_enabled w.trees frames last e)) by in
        does_on (all_is (inr (cant_where_not_enabled w.trees (bounds_of w.machine.limits) w.budget front (plain t) last (reached (plain t) most n why w v holds r) not)))
        (some_by_may not) is
    does_by (stopped.Refused told) by count is =
        does_refused told
        (next_left (plain t) most n why w v holds r (λ e. IsTrue (is_enabled w.trees frames last e) × IsRefusedAfter w.trees (bounds_of w.machine.limits) front e told) by).1
        count is

    pub does_turn : (count : ℕ) → end ≡ turn_end why count n → DoesTurn all w new
    does_turn count is = does_by why (ends_by (plain t) most n why w v holds r) count is

  -- ---- the end fits

  module _ (still : Holds v) where
    goes_on : Holds (record v { end = None })
    goes_on = record { files = still.files; done = still.done; within = still.within; fits = tt }

    module _ (told : EventRefusal) (by : EndsBy (stopped.Refused told) w.trees (bounds_of w.machine.limits) last front r.gone.left) (count : ℕ) (is : count ≡ length v.events) where
      below : count < v.budget
      below =
          let left = some_left (plain t) most n why w v holds r (λ e. IsTrue (is_enabled w.trees frames last e) × IsRefusedAfter w.trees (bounds_of w.machine.limits) front e told) by in
          omega (arith, is, left, ap length r.events, count_is (plain t) most n why w v holds r, within_budget (plain t) most n why w v holds r, holds.within, r.same.budget)

      refused : (state : State) → run v.trees v.machine.limits.frames v.events ≡ Some state
          → IsTrue (is_enabled v.trees v.machine.limits.frames state (plain t)) × IsRefusedFor v.trees (bounds_of v.machine.limits) v.events (plain t) (cause_of told)
      refused state reaches =
          let both = next_left (plain t) most n why w v holds r (λ e. IsTrue (is_enabled w.trees frames last e) × IsRefusedAfter w.trees (bounds_of w.machine.limits) front e told) by in
          let here : run w.trees frames front ≡ Some state =
          subst (λ l. run w.trees frames l ≡ Some state) r.events
          (subst (λ (l : Limits). run w.trees l.frames v.events ≡ Some state) r.same.limits
          (subst (λ (p : Program). run p v.machine.limits.frames v.events ≡ Some state) r.same.trees reaches))
          in
          let same : last ≡ state = same_Some last state (sym (reached (plain t) most n why w v holds r) ∙ here) in
          let for : IsRefusedFor w.trees (bounds_of w.machine.limits) front (plain t) (cause_of told) = refused_for w.trees (bounds_of w.machine.limits) last front (plain t) told both.1 in
          let enabled : IsTrue (is_enabled w.trees frames state (plain t)) = subst (λ s. IsTrue (is_enabled w.trees frames s (plain t))) same both.0 in (
            subst (λ (p : Program). IsTrue (is_enabled p v.machine.limits.frames state (plain t))) (sym r.same.trees)
                (subst (λ (l : Limits). IsTrue (is_enabled w.trees l.frames state (plain t))) (sym r.same.limits) enabled),
            subst (λ (p : Program). IsRefusedFor p (bounds_of v.machine.limits) v.events (plain t) (cause_of told)) (sym r.same.trees)
                (subst (λ (l : Limits). IsRefusedFor w.trees (bounds_of l) v.events (plain t) (cause_of told)) (sym r.same.limits)
                (subst (λ l. IsRefusedFor w.trees (bounds_of w.machine.limits) l (plain t) (cause_of told)) (sym r.events) for)),
          )

      ends_here : Holds (record v { end = Some (ends.Refused count (cause_of told)) })
      ends_here =
          let both = refused still.done.run.lead.state still.done.run.lead.reached in
          record { files = still.files; done = still.done; within = still.within; fits = (is, below, (plain t, both.0, both.1)) }

      ends_if : (b : Bool) → Holds (record v { end = if b then Some (ends.Refused count (cause_of told)) else None })
      ends_if true = ends_here
      ends_if false = goes_on

    ends_told : (told : EventRefusal) → EndsBy (stopped.Refused told) w.trees (bounds_of w.machine.limits) last front r.gone.left → (count : ℕ) → count ≡ length v.events
        → Holds (record v { end = turn_end (stopped.Refused told) count n })
    ends_told refusal.Objects by count is = ends_if refusal.Objects by count is (n == 0)
    ends_told refusal.Cells by count is = ends_if refusal.Cells by count is (n == 0)
    ends_told refusal.Monitors by count is = ends_if refusal.Monitors by count is (n == 0)
    ends_told refusal.Threads by count is = ends_if refusal.Threads by count is (n == 0)
    ends_told refusal.LockCount by count is = ends_if refusal.LockCount by count is (n == 0)
    ends_told refusal.Memory by count is = ends_here refusal.Memory by count is

    holds_by : (y : Stopped) → EndsBy y w.trees (bounds_of w.machine.limits) last front r.gone.left → (count : ℕ) → count ≡ length v.events
        → Holds (record v { end = turn_end y count n })
    holds_by stopped.Most by count is = goes_on
    holds_by stopped.NotEnabled by count is = goes_on
    holds_by (stopped.Refused told) by count is = ends_told told by count is

    pub holds_behind : (count : ℕ) → count ≡ length v.events → (end : Option End) → end ≡ turn_end why count n → Holds (record v { end = end })
    holds_behind count is end end_is =
        subst (λ o. Holds (record v { end = o })) (sym end_is) (holds_by why (ends_by (plain t) most n why w v holds r) count is)

-- what a turn does to a world that is the same
pub for_same : (t most : ℕ) (w old new : WorldOf) → w ≡ old → DoesTurn (with_turn w.trees (bounds_of w.machine.limits) w.budget most t w.events) w new
    → DoesTurn (with_turn old.trees (bounds_of old.machine.limits) old.budget most t old.events) old new
for_same t most w old new same does = subst (λ (x : WorldOf). DoesTurn (with_turn x.trees (bounds_of x.machine.limits) x.budget most t x.events) x new) same does

pub able_for_same : (t : ℕ) (w old : WorldOf) → w ≡ old → IsAble old t → IsAble w t
able_for_same t w old same able = subst (λ (x : WorldOf). IsAble x t) (sym same) able
