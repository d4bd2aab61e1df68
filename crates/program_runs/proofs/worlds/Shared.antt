-- A turn of a thread.
use Rattle.std.proofs.Common.{◌≡◌, ◌⊎◌, ◌<◌, ◌≤◌, ◌+◌, ◌-◌, ℕ, zero, suc, List, [], ◌∷◌, ◌++◌, Option, Some, None, Bool, true, false, length, replicate, refl, sym, ap, subst, ◌∙◌, inl, inr, arith}
use Rattle.std.specs.Prelude.{IsTrue, IsFalse, is_some, min, not}
use Rattle.std.specs.List.{list_all}
use Rattle.std.proofs.lemmas.List.{append-nil, length-replicate}
use Rattle.std.proofs.Math.Nat.{min-eq_left, min-eq_right}
use Rattle.std.proofs.Math.Decide.{dec_lt}
use Rattle.model.specs.declared.limits.Limits.{Limits}
use Rattle.model.specs.declared.end.End.{End}
use Rattle.model.specs.declared.end.End.TheVariants as ends
use Rattle.model.specs.declared.end.RunCause.TheVariants as cause
use Rattle.model.specs.declared.event.Event.{Event}
use Rattle.model.specs.Classes.{Program}
use Rattle.model.specs.LimitStands.{bounds_of, inflated}
use Rattle.model.specs.Operands.{words}
use Rattle.model.specs.Rows.{counting}
use Rattle.model.specs.Run.{may_step, is_quiet, run}
use Rattle.model.specs.State.{State, StateOf}
use Rattle.model.specs.Step.{is_enabled}
use Rattle.run_laws.specs.word_reports.Reports.{IsReportedAs, AreReportsOfWords}
use Rattle.machine_state.specs.Refusals.{cause_of}
use Rattle.machine_state.specs.shown_runs.Runs.{HasRun, IsRefusedAfter}
use Rattle.machine.specs.declared.machine.Stopped.{Stopped}
use Rattle.machine.specs.declared.machine.Stopped.TheVariants as stopped
use Rattle.machine.specs.Machines.{MachineOf}
use Rattle.machine.specs.Tops.{plain}
use Rattle.machine.specs.schedule_runs.Done.{OfNext, EndsBy}
use Rattle.machine.proofs.machine_replay.Replayed.{refused_for}
use Rattle.program_runs.specs.worlds.Turns.{MayStep, MayNone, IsFound, AreIdle, IsNext}
use Rattle.program_runs.specs.worlds.Worlds.{WorldOf, Holds, EndFits, HasRepeated, Stops, TakesTurn, stopped_end}

-- ---- options, tests

pub none_of : (o : Option End) (r : Bool) → r ≡ is_some o → r ≡ false → o ≡ None
none_of None r is no_one = refl
none_of (Some x) r is no_one = let bad : true ≡ false = sym is ∙ no_one in absurd cc

not_false : (b : Bool) → false ≡ b → not b ≡ true
not_false false e = refl
not_false true e = absurd cc

not_true : (b : Bool) → true ≡ b → not b ≡ false
not_true true e = refl
not_true false e = absurd cc

-- all of the numbers from one on pass
all_pass : (p : ℕ → Bool) (k n : ℕ) → ((u : ℕ) → k ≤ u → u < k + n → p u ≡ true) → list_all p (counting k n) ≡ true
all_pass p k zero each = refl
all_pass p k (suc n) each =
    let first : p k ≡ true = each k (omega arith) (omega arith) in
    let others : list_all p (counting (suc k) n) ≡ true = all_pass p (suc k) n (λ u low high. each u (omega (arith, low)) (omega (arith, high))) in
    cc

-- one of them doesn't
one_fails : (p : ℕ → Bool) (k n t : ℕ) → k ≤ t → t < k + n → p t ≡ false → list_all p (counting k n) ≡ false
one_fails p k zero t low high fails = absurd (omega (arith, low, high))
one_fails p k (suc n) t low high fails = case (p k) refl (λ above. one_fails p (suc k) n t above (omega (arith, high)) fails)
  where
    above : p k ≡ true → suc k ≤ t
    above e =
        let other : t ≡ k → ⊥ = λ same. let is : p t ≡ p k = ap p same in let bad : true ≡ false = sym e ∙ sym is ∙ fails in absurd cc in
        omega (arith, low, other)

    case : (b : Bool) → p k ≡ b → (suc k ≤ t → list_all p (counting (suc k) n) ≡ false) → list_all p (counting k (suc n)) ≡ false
    case false e later = cc
    case true e later = let others : list_all p (counting (suc k) n) ≡ false = later (above e) in cc

-- ---- events

next_of : (P : Event → Type 0) (event : Event) (k : ℕ) → 0 < k → OfNext (replicate k event) P → P event
next_of P event zero some is = absurd (omega (arith, some))
next_of P event (suc k) some is = is

nil_of : (l : List Event) → length l ≡ 0 → l ≡ []
nil_of [] e = refl
nil_of (x ∷ l) e = absurd cc

least_some : (a b : ℕ) → 1 ≤ a → 1 ≤ b → 0 < min a b
least_some a b some_a some_b = case (dec_lt a b)
  where
    case : Dec (a < b) → 0 < min a b
    case (yes lt) =
        let le : a ≤ b = omega (arith, lt) in
        subst (λ k. 0 < k) (sym (min-eq_left le)) some_a
    case (no ge) =
        let le : b ≤ a = omega (arith, ge) in
        subst (λ k. 0 < k) (sym (min-eq_right le)) some_b

same_state : (a b : State) → Some a ≡ Some b → a ≡ b
same_state a b e = cc

-- ---- what a world says of its state

module _ (reported : AreReportsOfWords) (w : WorldOf) (holds : Holds w) where
  abbrev m : MachineOf
  m = w.machine

  abbrev frames : ℕ
  frames = w.machine.limits.frames

  abbrev has : HasRun w.trees w.machine.program (bounds_of w.machine.limits) w.machine.shared w.events
  has = holds.done.run

  abbrev state : State
  state = holds.done.run.lead.state

  same : IsReportedAs words w.trees frames has.at state
  same = reported holds.files w.trees holds.done.accepted.linkable frames has.at state has.lead.are

  counts : length m.shared.threads.threads ≡ length state.world.threads
  counts = ap length has.shown.represents.world_is.threads ∙ ap (λ (s : StateOf ℕ). length s.world.threads) has.lead.are.are

  may_is : (t : ℕ) (r : Bool) → MayStep m t r → r ≡ may_step w.trees frames state t
  may_is t r is = is w.trees (bounds_of m.limits) (inflated w.trees frames w.events) has.at holds.done.program has.shown ∙ same.may t

  idle : (from to : ℕ) → MayNone m from to → AreIdle w.trees frames state from to
  idle from to none u low high = sym (may_is u false (none u low high))

  pub next_is : (from t : ℕ) → IsFound m from (Some t) → IsNext w.trees frames state from t
  next_is from t found = record { may = sym (may_is t true found.1); rotation = rotation found.2 }
    where
      rotation : ((from ≤ t) × MayNone m from t) ⊎ ((t < from) × MayNone m from (length m.shared.threads.threads) × MayNone m 0 t)
          → ((from ≤ t) × AreIdle w.trees frames state from t)
          ⊎ ((t < from) × AreIdle w.trees frames state from (length state.world.threads) × AreIdle w.trees frames state 0 t)
      rotation (inl up) = inl (up.0, idle from t up.1)
      rotation (inr around) = inr (around.0, subst (AreIdle w.trees frames state from) counts (idle from (length m.shared.threads.threads) around.1), idle 0 t around.2)

  quiet : (from : ℕ) → IsFound m from None → IsTrue (is_quiet w.trees frames state)
  quiet from found =
      all_pass (λ t. not (may_step w.trees frames state t)) 0 (length state.world.threads)
      (λ u low high. not_false (may_step w.trees frames state u) (may_is u false (found u low (subst (λ n. u < n) (sym counts) (omega (arith, high))))))

  not_quiet : (from t : ℕ) → IsFound m from (Some t) → IsFalse (is_quiet w.trees frames state)
  not_quiet from t found =
      let there : t < length state.world.threads = subst (λ n. t < n) counts found.0 in
      one_fails (λ t. not (may_step w.trees frames state t)) 0 (length state.world.threads) t (omega arith) (omega arith) (not_true (may_step w.trees frames state t) (may_is t true found.1))

  -- ---- ends before any event

  pub ends_quiet : (from : ℕ) → IsFound m from None → Holds (record w { end = Some ends.Quiet })
  ends_quiet from found = record { files = holds.files; done = holds.done; within = holds.within; fits = quiet from found }

  pub ends_by_budget : (from t : ℕ) → IsFound m from (Some t) → length w.events ≡ w.budget → Holds (record w { end = Some ends.Budget })
  ends_by_budget from t found all = record { files = holds.files; done = holds.done; within = holds.within; fits = (all, not_quiet from t found) }

  -- the budget is what is used up of it
  pub ends_where_stopped : (from t : ℕ) → IsFound m from (Some t) → (b : ℕ) → b ≡ length w.events → Holds (record w { budget = b; end = Some ends.Budget })
  ends_where_stopped from t found b used =
      record { files = holds.files; done = holds.done; within = omega (arith, used); fits = (sym used, not_quiet from t found) }

  module _ (from t : ℕ) (found : IsFound m from (Some t)) (other : length w.events ≡ w.budget → ⊥) (i : ℕ) (count : i ≡ length w.events) where
    below : i < w.budget
    below = omega (arith, holds.within, other, count)

    -- what is as before, but for the end
    pub ends_for_memory : (v : WorldOf) → v ≡ w → Holds (record v { end = Some (ends.Refused i cause.Memory) })
    ends_for_memory v same =
        subst (λ (x : WorldOf). Holds (record x { end = Some (ends.Refused i cause.Memory) })) (sym same) (record {
          files = holds.files;
          done = holds.done;
          within = holds.within;
          fits = (count, below, (plain t, sym (may_is t true found.1), tt));
        })

    -- ---- events of a thread

    module _ (on : w.end ≡ None) (most n : ℕ) (some : 1 ≤ most) (why : Stopped) (v : WorldOf) (r : HasRepeated (plain t) most n why w v) where
      pub has_shared : 0 < n → TakesTurn from most w.end (Some t) w v
      has_shared done_some = subst (λ o. TakesTurn from most o (Some t) w v) (sym on) (next_of_any, record { count = n; some = done_some; why = why; repeated = r })
        where
          next_of_any : (h : Holds w) → IsNext w.trees frames h.done.run.lead.state from t
          next_of_any h =
              subst (λ (s : State). IsNext w.trees frames s from t) (same_state holds.done.run.lead.state h.done.run.lead.state (sym holds.done.run.lead.reached ∙ h.done.run.lead.reached)) (next_is from t found)

      -- none was done
      module _ (none : n ≡ 0) (end : Option End) (end_is : end ≡ stopped_end why i) where
        no_front : r.gone.front ≡ []
        no_front = nil_of r.gone.front (sym r.gone.count ∙ none)

        all_are : w.events ++ r.gone.front ≡ v.events
        all_are = ap (λ l. w.events ++ l) no_front ∙ ap (λ k. w.events ++ replicate k (plain t)) (sym none) ∙ sym r.events

        none_more : v.events ≡ w.events
        none_more = r.events ∙ ap (λ k. w.events ++ replicate k (plain t)) none ∙ append-nil w.events

        left_is : r.gone.left ≡ replicate r.asked (plain t)
        left_is = sym (r.gone.schedule_is ∙ ap (λ l. l ++ r.gone.left) no_front)

        asked_some : 0 < r.asked
        asked_some =
            let room : 1 ≤ w.budget - length w.events = omega (arith, below, count) in
            subst (λ k. 0 < k) (sym r.asked_is) (least_some most (w.budget - length w.events) some room)

        fits : (y : Stopped) → EndsBy y w.trees (bounds_of v.machine.limits) r.gone.done.run.lead.state (w.events
            ++ r.gone.front) r.gone.left
            → EndFits w.trees (bounds_of v.machine.limits) r.gone.done.run.lead.state v.budget (w.events ++ r.gone.front) (stopped_end y i)
        fits stopped.Most is = tt
        fits stopped.NotEnabled is = tt
        fits (stopped.Refused told) is =
            let p = next_of (λ e. IsTrue (is_enabled w.trees v.machine.limits.frames r.gone.done.run.lead.state e) × IsRefusedAfter w.trees (bounds_of v.machine.limits) (w.events ++ r.gone.front) e told) (plain t) r.asked asked_some
            (subst (λ l. OfNext l (λ e. IsTrue (is_enabled w.trees v.machine.limits.frames r.gone.done.run.lead.state e) × IsRefusedAfter w.trees (bounds_of v.machine.limits) (w.events ++ r.gone.front) e told)) left_is is) in (
              count ∙ ap length (sym (all_are ∙ none_more)),
              subst (λ k. i < k) (sym r.same.budget) below,
              (plain t, p.0, refused_for w.trees (bounds_of v.machine.limits) r.gone.done.run.lead.state (w.events ++ r.gone.front) (plain t) told p.1),
            )

        is_within : length (w.events ++ r.gone.front) ≤ v.budget
        is_within = omega (arith, holds.within, ap length (all_are ∙ none_more), r.same.budget)

        pub ends_stopped : Holds (record v { end = end })
        ends_stopped =
            subst (λ o. Holds (record v { end = o })) (sym end_is)
            (subst (λ l. Holds (record v { events = l; end = stopped_end why i })) all_are
            (subst (λ (p : Program). Holds (record v { trees = p; events = w.events ++ r.gone.front; end = stopped_end why i })) (sym r.same.trees)
            (record { files = r.files; done = r.gone.done; within = is_within; fits = fits why r.gone.ends })))

        state_stays : r.gone.done.run.lead.state ≡ state
        state_stays =
            let a : run w.trees v.machine.limits.frames (w.events ++ r.gone.front) ≡ Some r.gone.done.run.lead.state = r.gone.done.run.lead.reached in
            let b : run w.trees v.machine.limits.frames w.events ≡ Some r.gone.done.run.lead.state = subst (λ l. run w.trees v.machine.limits.frames l ≡ Some r.gone.done.run.lead.state) (all_are ∙ none_more) a in
            let c : run w.trees frames w.events ≡ Some r.gone.done.run.lead.state = subst (λ (l : Limits). run w.trees l.frames w.events ≡ Some r.gone.done.run.lead.state) r.same.limits b in
            same_state r.gone.done.run.lead.state state (sym c ∙ has.lead.reached)

        is_end : (y : Stopped) → EndsBy y w.trees (bounds_of v.machine.limits) r.gone.done.run.lead.state (w.events
            ++ r.gone.front) r.gone.left → (e : End) × (stopped_end y i ≡ Some e)
        is_end stopped.Most is =
            let none_left : replicate r.asked (plain t) ≡ [] = sym left_is ∙ is in
            let nothing : r.asked ≡ 0 = sym (length-replicate r.asked (plain t)) ∙ ap length none_left in
            absurd (omega (arith, nothing, asked_some))
        is_end stopped.NotEnabled is =
            let p : IsFalse (is_enabled w.trees v.machine.limits.frames r.gone.done.run.lead.state (plain t)) = next_of (λ e. IsFalse (is_enabled w.trees v.machine.limits.frames r.gone.done.run.lead.state e)) (plain t) r.asked asked_some
            (subst (λ l. OfNext l (λ e. IsFalse (is_enabled w.trees v.machine.limits.frames r.gone.done.run.lead.state e))) left_is is) in
            let q : is_enabled w.trees frames state (plain t) ≡ false = subst (λ (s : State). is_enabled w.trees frames s (plain t) ≡ false) state_stays
            (subst (λ (l : Limits). is_enabled w.trees l.frames r.gone.done.run.lead.state (plain t) ≡ false) r.same.limits p) in
            let bad : true ≡ false = may_is t true found.1 ∙ q in
            absurd cc
        is_end (stopped.Refused told) is = (ends.Refused i (cause_of told), refl)

        pub has_ended : TakesTurn from most w.end None w (record v { end = end })
        has_ended =
            let e = is_end why r.gone.ends in
            subst (λ o. TakesTurn from most o None w (record v { end = end })) (sym on) (record { same = record { trees = r.same.trees; budget = r.same.budget; limits = r.same.limits }; events = none_more; end = e.0; is = end_is ∙ e.1 })

pub turn_at : (from most : ℕ) (result : Option ℕ) (w old new : WorldOf) → old ≡ w → TakesTurn from most w.end result w new
    → TakesTurn from most old.end result old new
turn_at from most result w old new same is = subst (λ (x : WorldOf). TakesTurn from most x.end result x new) (sym same) is

-- no thread may go on, and nothing is stopped
pub none_stops : (w now : WorldOf) → w ≡ now → w.end ≡ None → IsFound w.machine 0 None → Stops now.end now now
none_stops w now same on found = subst (λ (x : WorldOf). Stops x.end x x) same (subst (λ o. Stops o w w) (sym on) (inl (found, refl)))
