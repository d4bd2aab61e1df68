-- A replay of recorded events does all of them, memory aside.
use Rattle.std.proofs.Common.{◌≡◌, ◌⊎◌, inl, inr, ◌<◌, ◌≤◌, ◌+◌, ℕ, zero, suc, List, [], ◌∷◌, ◌++◌, Option, Some, None, Bool, true, false, length, refl, sym, ap, subst, ◌∙◌, arith}
use Rattle.std.proofs.Math.Decide.{dec_lt}
use Rattle.std.specs.Prelude.{IsTrue, IsFalse, map, not, slice_get}
use Rattle.std.specs.List.{list_all}
use Rattle.std.proofs.lemmas.List.{append-nil}
use Rattle.std.proofs.lemmas.Option.{same_Some, slice_get_within}
use Rattle.model.specs.declared.end.End.{End}
use Rattle.model.specs.declared.end.End.TheVariants as ends
use Rattle.model.specs.declared.end.RunCause.{RunCause}
use Rattle.model.specs.declared.end.RunCause.TheVariants as cause
use Rattle.model.specs.declared.event.Event.{Event}
use Rattle.model.specs.declared.limits.Limits.{Limits}
use Rattle.model.specs.declared.report.Report.{Report}
use Rattle.model.specs.Accepted.{IsAccepted}
use Rattle.model.specs.Classes.{Program}
use Rattle.model.specs.LimitStands.{Bounds, bounds_of, limit_after, within_limits}
use Rattle.model.specs.Meaning.{thread_ends}
use Rattle.model.specs.Opening.{opening}
use Rattle.model.specs.Operands.{values}
use Rattle.model.specs.Report.{end_state_of}
use Rattle.model.specs.Rows.{counting}
use Rattle.model.specs.Run.{run, is_quiet, may_step}
use Rattle.model.specs.State.{State, StackOf, types_of}
use Rattle.model.specs.Step.{is_enabled, is_enabled_by, event_of}
use Rattle.model.specs.declared.value.Value.{Value}
use Rattle.model.specs.WellTyped.{IsWellTyped}
use Rattle.run_laws.proofs.interleavings.Reduction.{run_typed}
use Rattle.run_laws.specs.searches.Picks.{ArePicksInOrder}
use Rattle.run_laws.proofs.typed_runs.Opened.{opening_typed}
use Rattle.run_laws.proofs.typed_runs.Settled.{lengths_same}
use Rattle.machine.specs.machine_replay.Replays.{EndFits, IsRefusedFor, IsReplay, MayWantMemory}
use Rattle.program_runs.specs.worlds.Records.{IsRecorded}
use Rattle.program_runs.specs.worlds.Worlds.{EndFits as RecordEndFits}
use Rattle.program_runs.specs.policies.Runs.{can_do}
use Rattle.program_runs.specs.recorded_replays.Same.{ShowTheSame, WantsMemory, DoRecordsReplay, end_of_replay}
use Rattle.program_runs.proofs.policies.TurnEvents.{can_in_front, cant_where_not_enabled, cant_at_limit}

-- ---- quiet or not

-- the end after all events
abbrev ends_at : Bool → End
ends_at true = ends.Quiet
ends_at false = ends.Schedule

both_of : (b : Bool) → b ≡ true → b ≡ false → ⊥
both_of true p q = absurd cc
both_of false p q = absurd cc

not_true : (b : Bool) → b ≡ true → not b ≡ false
not_true true e = refl
not_true false e = absurd cc

one_fails : (p : ℕ → Bool) (k n t : ℕ) → k ≤ t → t < k + n → p t ≡ false → list_all p (counting k n) ≡ false
one_fails p k zero t low high fails = absurd (omega (arith, low, high))
one_fails p k (suc n) t low high fails = by (dec_lt k t) (p k) refl (λ above. one_fails p (suc k) n t above (omega (arith, high)) fails)
  where
    by : Dec (k < t) → (b : Bool) → p k ≡ b → (suc k ≤ t → list_all p (counting (suc k) n) ≡ false) → list_all p (counting k (suc n)) ≡ false
    by above false e later = cc
    by (yes lt) true e later = let others : list_all p (counting (suc k) n) ≡ false = later (omega (arith, lt)) in cc
    by (no ge) true e later =
        let same : k ≡ t = omega (arith, low, ge) in
        let bad : true ≡ false = sym e ∙ ap p same ∙ fails in
        absurd cc

-- an event that is enabled is one of a thread that is there
enabled_there : (trees : Program) (frames : ℕ) (state : State) (event : Event) → is_enabled trees frames state event ≡ true
    → event.thread < length state.stacks
enabled_there trees frames state event e = by (slice_get state.stacks event.thread) refl e
  where
    by : (o : Option (StackOf Value)) → slice_get state.stacks event.thread ≡ o → is_enabled_by (event_of values trees frames state event o) ≡ true
        → event.thread < length state.stacks
    by None is e = absurd cc
    by (Some stack) is e = slice_get_within state.stacks event.thread stack is

enabled_not_quiet : ArePicksInOrder → (trees : Program) (frames : ℕ) (state : State) (event : Event) → IsWellTyped trees state
    → is_enabled trees frames state event ≡ true → is_quiet trees frames state ≡ false
enabled_not_quiet in_order trees frames state event h e =
    let there : event.thread < length state.stacks = enabled_there trees frames state event e in
    let count : length state.world.threads ≡ length state.stacks = lengths_same trees (types_of state.world.heap) state.world.threads state.stacks h.threads in
    let may : may_step trees frames state event.thread ≡ true = in_order trees frames state event.thread 0 event.pick (omega arith) e in
    one_fails (λ t. not (may_step trees frames state t)) 0 (length state.world.threads) event.thread (omega arith) (omega (arith, there, count))
    (not_true (may_step trees frames state event.thread) may)

-- ---- a replay of recorded events

module _ (in_order : ArePicksInOrder) (files : List (List ℕ)) (trees : Program) (accepted : IsAccepted files trees) (limits : Limits) (budget : ℕ) (events : List Event) (recorded : Report) (end : End)
    (r : IsRecorded trees limits budget events recorded end) (replayed : Report) (its_end : End) (p : IsReplay trees events limits replayed its_end) where
  abbrev b : Bounds
  b = bounds_of limits

  -- the next event, if there is one, can be done
  can : (event : Event) (more : List Event) → p.left ≡ event ∷ more → can_do trees b (suc (length p.front)) p.front event ≡ true
  can event more is =
      let are : events ≡ p.front ++ event ∷ more = p.events_are ∙ ap (λ l. p.front ++ l) is in
      can_in_front trees b (suc (length p.front)) p.front more event r.state (subst (λ l. run trees limits.frames l ≡ Some r.state) are r.reached)
      (subst (λ l. within_limits trees b l ≡ true) are r.within) (omega arith)

  enabled : (event : Event) (more : List Event) → p.left ≡ event ∷ more → is_enabled trees limits.frames p.state event ≡ false → ⊥
  enabled event more is not =
      both_of (can_do trees b (suc (length p.front)) p.front event) (can event more is)
      (cant_where_not_enabled trees b (suc (length p.front)) p.front event p.state p.reached not)

  unlimited : (event : Event) (more : List Event) → p.left ≡ event ∷ more → (why : RunCause) → limit_after trees b p.front event ≡ Some why → ⊥
  unlimited event more is why stands =
      both_of (can_do trees b (suc (length p.front)) p.front event) (can event more is)
      (cant_at_limit trees b (suc (length p.front)) p.front event p.state p.reached why stands)

  -- so it did all, or wants memory
  abbrev DidAll : End → Type 0
  DidAll e = (p.left ≡ []) × (e ≡ ends_at (is_quiet trees limits.frames p.state))

  refused : (event : Event) (more : List Event) → p.left ≡ event ∷ more → (i : ℕ) (why : RunCause) → IsRefusedFor trees b p.front event why
      → WantsMemory (ends.Refused i why)
  refused event more is i cause.Objects for = absurd (unlimited event more is cause.Objects for)
  refused event more is i cause.Cells for = absurd (unlimited event more is cause.Cells for)
  refused event more is i cause.Monitors for = absurd (unlimited event more is cause.Monitors for)
  refused event more is i cause.Threads for = absurd (unlimited event more is cause.Threads for)
  refused event more is i cause.LockCount for = absurd (unlimited event more is cause.LockCount for)
  refused event more is i cause.Memory for = (i, refl)

  did : (left : List Event) → p.left ≡ left → (e : End) → EndFits trees b p.state p.front left e → WantsMemory e ⊎ DidAll e
  did left is ends.Schedule fits = inr (is ∙ fits.0, sym (ap ends_at fits.1))
  did left is ends.Quiet fits = inr (is ∙ fits.0, sym (ap ends_at fits.1))
  did [] is (ends.NotEnabled i) fits = absurd fits.1
  did (event ∷ more) is (ends.NotEnabled i) fits = absurd (enabled event more is fits.1)
  did [] is (ends.Refused i why) fits = absurd fits.1
  did (event ∷ more) is (ends.Refused i why) fits = inl (refused event more is i why fits.1.1)
  did left is ends.Budget fits = absurd fits

  -- all of them: it came to the state of the run
  front_is : p.left ≡ [] → p.front ≡ events
  front_is none = sym (p.events_are ∙ ap (λ l. p.front ++ l) none ∙ append-nil p.front)

  state_is : p.left ≡ [] → p.state ≡ r.state
  state_is none = same_Some p.state r.state (sym p.reached ∙ ap (run trees limits.frames) (front_is none) ∙ r.reached)

  shows : p.left ≡ [] → ShowTheSame replayed recorded
  shows none =
      record {
        printed = p.printed ∙ ap (λ (s : State). s.world.printed) (state_is none) ∙ sym r.printed;
        threads = p.threads ∙ ap (thread_ends trees limits.frames) (state_is none) ∙ sym r.threads;
        count = p.count ∙ ap length (front_is none) ∙ sym r.count;
      }

  typed : IsWellTyped trees r.state
  typed = run_typed files trees accepted limits.frames events (opening values trees) r.state (opening_typed trees) r.reached

  end_is : (e : End) → RecordEndFits trees b r.state budget events (Some e) → ends_at (is_quiet trees limits.frames r.state) ≡ end_of_replay e
  end_is ends.Quiet fits = ap ends_at fits
  end_is ends.Budget fits = ap ends_at fits.1
  end_is (ends.Refused i why) fits = ap ends_at (enabled_not_quiet in_order trees limits.frames r.state fits.2.0 typed fits.2.1)
  end_is ends.Schedule fits = absurd fits
  end_is (ends.NotEnabled i) fits = absurd fits

  pub alike : WantsMemory its_end ⊎ (ShowTheSame replayed recorded × (its_end ≡ end_of_replay end))
  alike = by (did p.left refl its_end p.ended)
    where
      by : WantsMemory its_end ⊎ DidAll its_end → WantsMemory its_end ⊎ (ShowTheSame replayed recorded × (its_end ≡ end_of_replay end))
      by (inl wants) = inl wants
      by (inr all) =
          inr (shows all.0, all.1 ∙ ap (λ (s : State). ends_at (is_quiet trees limits.frames s)) (state_is all.0) ∙ end_is end r.ended)

pub records_replay_alike : ArePicksInOrder → DoRecordsReplay
records_replay_alike in_order files trees accepted limits budget events recorded end r replayed its_end p =
    alike in_order files trees accepted limits budget events recorded end r replayed its_end p
