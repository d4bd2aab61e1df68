-- What an event of a well-typed state comes to: what its thread does, and what that changes.
use Rattle.std.proofs.Common.{◌≡◌, ℕ, ◌-◌, List, [], ◌++◌, length, Option, Some, None, refl, sym, ap, subst}
use Rattle.std.specs.Prelude.{slice_get, slice_set, replicate}
use Rattle.std.proofs.lemmas.Option.{same_Some, none-some, get_or_from_slice_get}
use Rattle.model.specs.declared.event.Event.{Event}
use Rattle.model.specs.declared.value.Value.{Value}
use Rattle.model.specs.Accepted.{IsAccepted}
use Rattle.model.specs.Classes.{Program}
use Rattle.model.specs.Operands.{values}
use Rattle.model.specs.Outcomes.{Cost}
use Rattle.model.specs.State.{types_of, Thread, StackOf, World, State}
use Rattle.model.specs.Step.{SteppedOf, NotEnabled, WrongKind, Next, PartOf, end_of, settled, thread_event, with_part, event_of, next_by, step}
use Rattle.model.specs.WellTyped.{IsStackTyped, IsWellTyped}
use Rattle.model.specs.Worlds.{thread_at, no_thread}
use Rattle.run_laws.proofs.soundness.Sound.{by_status, fits_of, instructs, links}
use Rattle.run_laws.proofs.typed_runs.Changes.{Changes, Still}
use Rattle.run_laws.proofs.typed_runs.Settled.{settled_typed, thread_there}
use Rattle.run_laws.proofs.typed_runs.StepParts.{OnPart}

module _ (trees : Program) (frames : ℕ) (state : State) (event : Event) where
  abbrev pub does : StackOf Value → SteppedOf (PartOf Value)
  does stack = thread_event values trees frames event state.world stack (thread_at state.world event.thread).status

  -- the state with what the thread left
  abbrev pub state_with : World → StackOf Value → State
  state_with world stack =
      record { world = world; stacks = slice_set state.stacks event.thread stack ++ replicate (length world.threads - length state.stacks) [] }

  pub record IsDone (next : State) : Type 0 where
    pub stack : StackOf Value
    pub there : slice_get state.stacks event.thread ≡ Some stack
    pub cost : Cost
    pub left : PartOf Value
    pub did : does stack ≡ Next cost left
    pub is_next : state_with (end_of event.thread left.world left.stack) left.stack ≡ next

  module _ (next : State) where
    by_part : (stack : StackOf Value) → slice_get state.stacks event.thread ≡ Some stack → (x : SteppedOf (PartOf Value)) → does stack ≡ x
        → next_by (with_part state event.thread (settled event.thread x)) ≡ Some next → IsDone next
    by_part stack there NotEnabled q e = absurd (none-some next e)
    by_part stack there WrongKind q e = absurd (none-some next e)
    by_part stack there (Next cost left) q e =
        record { stack = stack; there = there; cost = cost; left = left; did = q; is_next = same_Some (state_with (end_of event.thread left.world left.stack) left.stack) next e }

    by_there : (o : Option (StackOf Value)) → slice_get state.stacks event.thread ≡ o
        → next_by (event_of values trees frames state event o) ≡ Some next → IsDone next
    by_there None q e = absurd (none-some next e)
    by_there (Some stack) q e = by_part stack q (does stack) refl e

    pub done_of : step trees frames state event ≡ Some next → IsDone next
    done_of e = by_there (slice_get state.stacks event.thread) refl e

module _ (files : List (List ℕ)) (trees : Program) (accepted : IsAccepted files trees) (frames : ℕ) (state : State)
    (h : IsWellTyped trees state) (event : Event) (next : State) (e : step trees frames state event ≡ Some next) where
  changed_by : IsDone trees frames state event next → Changes trees event.thread state.world next.world
  changed_by d =
      let at = thread_there trees (types_of state.world.heap) state.world.threads state.stacks event.thread d.stack h.threads d.there in
      let is = ap (λ (th : Thread). th.status) (get_or_from_slice_get state.world.threads event.thread at.0 no_thread at.1.0) in
      let typed = by_status trees (links files trees accepted) accepted.typed (instructs files trees accepted) frames event state.world (fits_of trees state h) at.0 at.1.0 at.1.1.object d.stack (thread_at state.world event.thread).status (sym is) (subst (IsStackTyped trees (types_of state.world.heap) at.0.pending d.stack) (sym is) at.1.1.stack_typed) in
      let settles = settled_typed trees event.thread state.world at.0 at.1.0 (does trees frames state event d.stack) typed in
      let left = subst (λ x. OnPart trees event.thread state.world (settled event.thread x)) d.did settles in
      subst (λ (z : State). Changes trees event.thread state.world z.world) d.is_next left.changes

  -- what it changes
  pub changed : Changes trees event.thread state.world next.world
  changed = changed_by (done_of trees frames state event next e)

  -- a thread that was there is there
  pub still : (t : ℕ) (thread : Thread) → slice_get state.world.threads t ≡ Some thread
      → Still event.thread next.world.threads t thread
  still t thread there = changed.go.still t thread there
