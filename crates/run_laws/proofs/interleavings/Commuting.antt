-- A local event of a thread and an event of another one commute.
use Rattle.std.proofs.Common.{◌≡◌, ℕ, zero, suc, ◌-◌, List, [], ◌∷◌, ◌++◌, length, true, false, ◌==◌, Option, Some, None, refl, sym, ap, ◌∙◌, subst}
use Rattle.std.specs.Prelude.{slice_get, slice_set, replicate}
use Rattle.std.proofs.lemmas.Bool.{false_from_ne_true, eqb-true}
use Rattle.std.proofs.lemmas.List.{set_comm, length-set}
use Rattle.std.proofs.lemmas.Option.{get_or_from_slice_get}
use Rattle.model.specs.declared.event.Event.{Event}
use Rattle.model.specs.declared.value.Value.{Value}
use Rattle.model.specs.Classes.{Program}
use Rattle.model.specs.Operands.{values}
use Rattle.model.specs.Outcomes.{Cost, Free}
use Rattle.model.specs.State.{types_of, Running, Thread, StackOf, State}
use Rattle.model.specs.Worlds.{thread_at, no_thread}
use Rattle.model.specs.WellTyped.{IsWellTyped, IsStackTyped}
use Rattle.model.specs.Accepted.{IsAccepted}
use Rattle.model.specs.Step.{SteppedOf, NotEnabled, WrongKind, Next, PartOf, settled, thread_event, with_part, event_of, stepped}
use Rattle.run_laws.specs.laws.Steps.{is_wrong}
use Rattle.run_laws.proofs.laws.Answered.{never_wrong}
use Rattle.run_laws.proofs.laws.Lists.{get_front}
use Rattle.run_laws.proofs.typed_runs.Threads.{get_set_other, moved_running}
use Rattle.run_laws.proofs.typed_runs.StepParts.{OnPart}
use Rattle.run_laws.proofs.typed_runs.Settled.{thread_there, settled_typed}
use Rattle.run_laws.proofs.soundness.Sound.{by_status, fits_of, links, instructs}
use Rattle.run_laws.specs.interleavings.Local.{next_local, with_stack}
use Rattle.run_laws.specs.interleavings.Statements.{IsLeftAlone, Commute, AreOthersLeftAlone, AreLocalEventsTheirOwn, AreLocalEventsCommuting}
use Rattle.run_laws.proofs.interleavings.Own.{next_of, of_next, own_stepped}

set_front : {A : Type 0} (xs ys : List A) (k : ℕ) (x y : A) → slice_get xs k ≡ Some x → slice_set (xs ++ ys) k y ≡ slice_set xs k y ++ ys
set_front [] ys k x y e = absurd cc
set_front (z ∷ zs) ys zero x y e = refl
set_front (z ∷ zs) ys (suc k) x y e = ap (λ l. z ∷ l) (set_front zs ys k x y e)

module _ (files : List (List ℕ)) (trees : Program) (accepted : IsAccepted files trees) (frames : ℕ) (state : State)
    (h : IsWellTyped trees state) where
  pub right : (event : Event) → is_wrong (stepped values trees frames state event) ≡ false
  right event =
      let l = links files trees accepted in
      never_wrong trees l.rooted (record { body = l.main.body; is_body = l.main.is_body }) frames state event h

  module _ (event : Event) (stack : StackOf Value) (there : slice_get state.stacks event.thread ≡ Some stack) where
    abbrev does : SteppedOf (PartOf Value)
    does = settled event.thread (thread_event values trees frames event state.world stack (thread_at state.world event.thread).status)

    -- what the event does keeps types
    does_typed : OnPart trees event.thread state.world does
    does_typed =
        let at = thread_there trees (types_of state.world.heap) state.world.threads state.stacks event.thread stack h.threads there in
        let is = ap (λ (th : Thread). th.status) (get_or_from_slice_get state.world.threads event.thread at.0 no_thread at.1.0) in
        let typed = by_status trees (links files trees accepted) accepted.typed (instructs files trees accepted) frames event state.world (fits_of trees state h) at.0 at.1.0 at.1.1.object stack (thread_at state.world event.thread).status (sym is) (subst (IsStackTyped trees (types_of state.world.heap) at.0.pending stack) (sym is) at.1.1.stack_typed) in
        settled_typed trees event.thread state.world at.0 at.1.0 (thread_event values trees frames event state.world stack (thread_at state.world event.thread).status) typed

  module _ (t : ℕ) (old : StackOf Value) (old_there : slice_get state.stacks t ≡ Some old) (runs : (thread_at state.world t).status ≡ Running) (event : Event) (ne : t ≡ event.thread → ⊥) (cost : Cost) where
    module _ (p : PartOf Value) (typed : OnPart trees event.thread state.world (Next cost p)) where
      abbrev after : State
      after = record { world = p.world; stacks = slice_set state.stacks event.thread p.stack ++ replicate (length p.world.threads - length state.stacks) [] }

      set_there : slice_get (slice_set state.stacks event.thread p.stack) t ≡ Some old
      set_there = get_set_other state.stacks event.thread t p.stack (λ e. ne (sym e)) ∙ old_there

      still_there : slice_get after.stacks t ≡ Some old
      still_there = get_front (slice_set state.stacks event.thread p.stack) (replicate (length p.world.threads - length state.stacks) []) t old set_there

      alone : IsLeftAlone state after t
      alone =
          let at = thread_there trees (types_of state.world.heap) state.world.threads state.stacks t old h.threads old_there in
          let was = get_or_from_slice_get state.world.threads t at.0 no_thread at.1.0 in
          let s = typed.changes.go.still t at.0 at.1.0 in
          let is = get_or_from_slice_get p.world.threads t s.thread no_thread s.there in
          let other : (t == event.thread) ≡ false = false_from_ne_true (t == event.thread) (λ q. ne (eqb-true t event.thread q)) in
          let kept = s.kept other in
          let running : at.0.status ≡ Running = sym (ap (λ (th : Thread). th.status) was) ∙ runs in
          let on : s.thread.status ≡ Running = moved_running at.0.status s.thread.status kept.status running in
          record {
            stack = still_there ∙ sym old_there;
            status = ap (λ (th : Thread). th.status) is ∙ (on ∙ sym runs);
            pending = ap (λ (th : Thread). th.pending) is ∙ (kept.pending ∙ sym (ap (λ (th : Thread). th.pending) was));
          }

      moved_on : (own : StackOf Value) → next_local trees state t ≡ Some own → next_local trees after t ≡ Some own
      moved_on own e =
          let n = next_of trees state t own e in
          of_next trees after t own (record { stack = n.stack; status = alone.status ∙ n.status; pending = alone.pending ∙ n.pending; there = alone.stack ∙ n.there; does = n.does })

      either_order : (own : StackOf Value) → with_part (with_stack state t own) event.thread (Next cost p)
          ≡ Next cost (with_stack after t own)
      either_order own =
          let before = slice_set (slice_set state.stacks t own) event.thread p.stack in
          let set = slice_set state.stacks event.thread p.stack in
          let more = replicate (length p.world.threads - length state.stacks) [] in
          ap (λ k. Next cost (let s : State = record { world = p.world; stacks = before ++ replicate (length p.world.threads - k) [] } in s)) (length-set state.stacks t own)
          ∙ (ap (λ k. Next cost (let s : State = record { world = p.world; stacks = k ++ more } in s)) (set_comm state.stacks t event.thread own p.stack ne)
          ∙ ap (λ k. Next cost (let s : State = record { world = p.world; stacks = k } in s)) (sym (set_front set more t old own set_there)))

    module _ (P : State → Type 0) (each : (stack : StackOf Value) (p : PartOf Value) (typed : OnPart trees event.thread state.world (Next cost p)) → (there : slice_get state.stacks event.thread ≡ Some stack) → does event stack there ≡ Next cost p → P (after p typed)) (next : State) where
      same_next : {a b : Cost} {x y : State} → Next a x ≡ Next b y → (a ≡ b) × (x ≡ y)
      same_next e = (cc, cc)

      by_part : (stack : StackOf Value) (there : slice_get state.stacks event.thread ≡ Some stack) (x : SteppedOf (PartOf Value))
          → does event stack there ≡ x → OnPart trees event.thread state.world x → with_part state event.thread x ≡ Next cost next → P next
      by_part stack there NotEnabled q typed e = absurd cc
      by_part stack there WrongKind q typed e = absurd cc
      by_part stack there (Next taken p) q typed e =
          let s = same_next e in
          let q2 : does event stack there ≡ Next cost p = q ∙ ap (λ c. Next c p) s.0 in
          subst P s.1 (each stack p typed there q2)

      by_there : (o : Option (StackOf Value)) → slice_get state.stacks event.thread ≡ o
          → event_of values trees frames state event o ≡ Next cost next → P next
      by_there None q e = absurd cc
      by_there (Some stack) q e = by_part stack q (does event stack q) refl (does_typed event stack q) e

      pub each_next : stepped values trees frames state event ≡ Next cost next → P next
      each_next e = by_there (slice_get state.stacks event.thread) refl e

    pub left_alone : (next : State) → stepped values trees frames state event ≡ Next cost next → IsLeftAlone state next t
    left_alone next e = each_next (λ z. IsLeftAlone state z t) (λ stack p typed there q. alone p typed) next e

    commutes : (own : StackOf Value) → next_local trees state t ≡ Some own → (next : State)
        → stepped values trees frames state event ≡ Next cost next → Commute trees frames state t own event cost next
    commutes own n next e = each_next (λ z. Commute trees frames state t own event cost z) each next e
      where
        each : (stack : StackOf Value) (p : PartOf Value) (typed : OnPart trees event.thread state.world (Next cost p))
            → (there : slice_get state.stacks event.thread ≡ Some stack) → does event stack there ≡ Next cost p
            → Commute trees frames state t own event cost (after p typed)
        each stack p typed there q =
            let reads = get_set_other state.stacks t event.thread own ne ∙ there in
            record {
              stays = moved_on p typed own n;
              same = ap (event_of values trees frames (with_stack state t own) event) reads ∙ (ap (with_part (with_stack state t own) event.thread) q ∙ either_order p typed own);
            }

  pub local_commutes : (t : ℕ) (own : StackOf Value) → next_local trees state t ≡ Some own → (event : Event) (cost : Cost) (next : State)
      → (t ≡ event.thread → ⊥) → stepped values trees frames state event ≡ Next cost next → Commute trees frames state t own event cost next
  local_commutes t own e event cost next ne s =
      let n = next_of trees state t own e in commutes t n.stack n.there n.status event ne cost own e next s

  pub local_is_own : (event : Event) (own : StackOf Value) → next_local trees state event.thread ≡ Some own → (event.pick == 0) ≡ true
      → stepped values trees frames state event ≡ Next Free (with_stack state event.thread own)
  local_is_own event own e p = own_stepped trees frames state h event own (next_of trees state event.thread own e) (right event) p

pub others_left_alone : AreOthersLeftAlone
others_left_alone files trees accepted frames state h event cost next e t stack there runs ne =
    left_alone files trees accepted frames state h t stack there runs event ne cost next e

pub their_own : AreLocalEventsTheirOwn
their_own files trees accepted frames state h event stack e p =
    local_is_own files trees accepted frames state h event stack e (ap (λ k. k == 0) p)

pub commuting : AreLocalEventsCommuting
commuting files trees accepted frames state h t stack n event cost next ne e =
    local_commutes files trees accepted frames state h t stack n event cost next ne e
