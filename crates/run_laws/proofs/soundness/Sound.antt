-- Each event keeps a state well typed, and so no state that a run reaches has a wrong kind.
use Rattle.std.proofs.Common.{◌≡◌, ℕ, List, [], ◌∷◌, true, false, Option, Some, None, refl, sym, ap, subst}
use Rattle.std.specs.Prelude.{slice_get}
use Rattle.std.specs.Option.{option_and_then}
use Rattle.std.proofs.lemmas.Option.{get_or_from_slice_get, same_Some}
use Rattle.model.specs.declared.event.Event.{Event}
use Rattle.model.specs.declared.value.Value.{Value}
use Rattle.model.specs.Names.{java_lang_thread}
use Rattle.model.specs.Classes.{Program}
use Rattle.model.specs.Operands.{values}
use Rattle.model.specs.State.{types_of, ThreadStatus, Running, Waiting, Relock, Ended, Thread, Invocation, Initialisation, StackOf, World, State}
use Rattle.model.specs.Worlds.{no_thread, thread_at}
use Rattle.model.specs.Opening.{opening}
use Rattle.model.specs.Step.{SteppedOf, NotEnabled, WrongKind, Next, PartOf, settled, running_event, going_event, thread_event, begin_event, initialisation_event, pending_event, relock_event, with_part, event_of, stepped, next_by, step}
use Rattle.model.specs.Run.{run_from, run}
use Rattle.model.specs.Typing.{AreTyped}
use Rattle.model.specs.Accepted.{IsAccepted}
use Rattle.model.specs.WellTyped.{is_object_in, IsRunning, IsStackTyped, IsWellTyped}
use Rattle.model.specs.WrongKind.{has_wrong_kind}
use Rattle.run_laws.specs.laws.Steps.{is_wrong}
use Rattle.run_laws.specs.soundness.Runs.{IsNoEventWrong}
use Rattle.run_laws.proofs.laws.Progress.{well_typed_right}
use Rattle.run_laws.proofs.laws.Answered.{never_wrong}
use Rattle.run_laws.proofs.typed_runs.Opened.{opening_typed}
use Rattle.run_laws.proofs.typed_runs.Changes.{Fits}
use Rattle.run_laws.proofs.laws.Linked.{Linked}
use Rattle.run_laws.proofs.typed_runs.Flows.{InstructionsTyped}
use Rattle.run_laws.proofs.typed_runs.Instructed.{meaning_typed}
use Rattle.run_laws.proofs.typed_runs.BuiltIns.{built_in_typed}
use Rattle.run_laws.proofs.laws.LinkedOf.{linked_of}
use Rattle.run_laws.proofs.typed_runs.Begun.{begun_keeps}
use Rattle.run_laws.proofs.typed_runs.StepParts.{At, OnPart, self_at, idle_running, idle_relock}
use Rattle.run_laws.proofs.typed_runs.Entering.{unpicked_typed}
use Rattle.run_laws.proofs.typed_runs.Stepped.{bytecode_typed}
use Rattle.run_laws.proofs.typed_runs.Events.{pending_event_typed, relock_typed, initialisation_typed}
use Rattle.run_laws.proofs.typed_runs.Begins.{begin_typed}
use Rattle.run_laws.proofs.typed_runs.Settled.{settled_typed, thread_there, put_typed}

-- what is left of the world of a well-typed state
pub fits_of : (files : Program) (state : State) → IsWellTyped files state → Fits files state.world
fits_of files state h = record { heap = h.heap; statics = h.statics; monitors = h.monitors; wait_sets = h.wait_sets; opened = h.opened }

module _ (files : Program) (linked : Linked files) (accepted : AreTyped files) (instructions : InstructionsTyped files) (frames : ℕ) where
  module _ (event : Event) (world : World) (fits : Fits files world) (thread : Thread) (there : slice_get world.threads event.thread ≡ Some thread) (object : is_object_in files (types_of world.heap) java_lang_thread thread.object ≡ true) where
    self : is_object_in files (types_of world.heap) java_lang_thread (thread_at world event.thread).object ≡ true
    self =
        subst (λ (th : Thread). is_object_in files (types_of world.heap) java_lang_thread th.object ≡ true) (sym (get_or_from_slice_get world.threads event.thread thread no_thread there)) object

    module _ (runs : thread.status ≡ Running) where
      start : At files event.thread world world thread
      start = self_at files event.thread world thread fits there (idle_running thread runs)

      running_typed : (stack : StackOf Value) → thread.pending ≡ None → IsRunning files (types_of world.heap) None stack
          → OnPart files event.thread world (running_event values files frames event world stack)
      running_typed [] none h =
          unpicked_typed files event.thread world event (begin_event values files frames world event.thread)
          (begin_typed files linked accepted frames world fits (begun_keeps files linked) event.thread thread there start runs none object)
      running_typed (Invocation frame ∷ stack) none h =
          bytecode_typed files linked accepted instructions (begun_keeps files linked) event world fits (record { thread = thread; there = there; status = runs; pending = none }) self frames frame stack h.0 h.1
      running_typed (Initialisation class phase ∷ stack) none h =
          unpicked_typed files event.thread world event (initialisation_event values files frames event.thread class phase world stack)
          (initialisation_typed files linked event.thread world thread there start accepted (begun_keeps files linked) frames runs none class phase stack h)

      going_on_typed : (stack : StackOf Value) (pending : Option ℕ) → thread.pending ≡ pending
          → IsRunning files (types_of world.heap) pending stack
          → OnPart files event.thread world (going_event values files frames event world stack pending)
      going_on_typed stack None e h = running_typed stack e h
      going_on_typed stack (Some exception) e h =
          unpicked_typed files event.thread world event (pending_event values files event.thread exception (slice_get (types_of world.heap) exception) world stack)
          (pending_event_typed files linked event.thread world thread there start runs exception e h.0 (slice_get (types_of world.heap) exception) refl stack h.1)

    pub by_status : (stack : StackOf Value) (status : ThreadStatus) → thread.status ≡ status
        → IsStackTyped files (types_of world.heap) thread.pending stack status
        → OnPart files event.thread world (thread_event values files frames event world stack status)
    by_status stack Running e h =
        let is = ap (λ (th : Thread). th.pending) (get_or_from_slice_get world.threads event.thread thread no_thread there) in
        subst (λ p. OnPart files event.thread world (going_event values files frames event world stack p)) (sym is) (going_on_typed e stack thread.pending refl h)
    by_status stack (Waiting object count) e h = tt
    by_status stack (Relock object count cause) e h =
        unpicked_typed files event.thread world event (relock_event values files event.thread object count cause world stack)
        (relock_typed files linked event.thread world thread there (self_at files event.thread world thread fits there (idle_relock thread object count cause e)) object count cause stack h.0 h.1.1)
    by_status stack (Ended exception) e h = tt

  abbrev pub OnState : SteppedOf State → Type 0
  OnState NotEnabled = Unit {0}
  OnState WrongKind = Unit {0}
  OnState (Next cost state) = IsWellTyped files state

  module _ (state : State) (h : IsWellTyped files state) (event : Event) where
    put_back_typed : (stack : StackOf Value) → slice_get state.stacks event.thread ≡ Some stack → (x : SteppedOf (PartOf Value))
        → OnPart files event.thread state.world x → OnState (with_part state event.thread x)
    put_back_typed stack e NotEnabled x = tt
    put_back_typed stack e WrongKind x = tt
    put_back_typed stack e (Next cost p) x = put_typed files state h event.thread stack e p x

    event_typed : (o : Option (StackOf Value)) → slice_get state.stacks event.thread ≡ o
        → OnState (event_of values files frames state event o)
    event_typed None e = tt
    event_typed (Some stack) e =
        let at = thread_there files (types_of state.world.heap) state.world.threads state.stacks event.thread stack h.threads e in
        let is = ap (λ (th : Thread). th.status) (get_or_from_slice_get state.world.threads event.thread at.0 no_thread at.1.0) in
        let x = thread_event values files frames event state.world stack (thread_at state.world event.thread).status in
        let typed = by_status event state.world (fits_of files state h) at.0 at.1.0 at.1.1.object stack (thread_at state.world event.thread).status (sym is) (subst (IsStackTyped files (types_of state.world.heap) at.0.pending stack) (sym is) at.1.1.stack_typed) in
        put_back_typed stack e (settled event.thread x) (settled_typed files event.thread state.world at.0 at.1.0 x typed)

    -- a step of a well-typed state is well typed
    pub stepped_typed : OnState (stepped values files frames state event)
    stepped_typed = event_typed (slice_get state.stacks event.thread) refl

    step_by : (x : SteppedOf State) → OnState x → (next : State) → next_by x ≡ Some next → IsWellTyped files next
    step_by NotEnabled g next e = absurd cc
    step_by WrongKind g next e = absurd cc
    step_by (Next cost s) g next e = let is : s ≡ next = same_Some s next e in subst (IsWellTyped files) is g

    pub step_typed : (next : State) → step files frames state event ≡ Some next → IsWellTyped files next
    step_typed next e = step_by (stepped values files frames state event) stepped_typed next e

  -- ---- runs

  run_typed : (events : List Event) (state : State) → IsWellTyped files state → (last : State)
      → run_from files frames state events ≡ Some last → IsWellTyped files last
  run_typed [] state h last e = let is : state ≡ last = same_Some state last e in subst (IsWellTyped files) is h
  run_typed (event ∷ events) state h last e = by (λ next g. run_typed events next g last) (step files frames state event) refl e
    where
      by : ((next : State) → IsWellTyped files next → run_from files frames next events ≡ Some last → IsWellTyped files last)
          → (o : Option State) → step files frames state event ≡ o
          → option_and_then (λ next. run_from files frames next events) o ≡ Some last → IsWellTyped files last
      by rest None q r = absurd cc
      by rest (Some next) q r = rest next (step_typed state h event next q) r

  -- no thread of a state that a run reaches has a wrong kind
  pub run_right : (events : List Event) (state : State) → run files frames events ≡ Some state → (t : ℕ)
      → has_wrong_kind files state t ≡ false
  run_right events state e t =
      well_typed_right files linked.rooted state (run_typed events (opening values files) (opening_typed files) state e) t

-- ---- accepted files

module _ (files : List (List ℕ)) (trees : Program) (accepted : IsAccepted files trees) where
  pub links : Linked trees
  links = linked_of files trees accepted.linkable.spelled accepted.linkable.no_refusal

  pub instructs : InstructionsTyped trees
  instructs = meaning_typed trees (built_in_typed trees links)

  pub kept : (frames : ℕ) (state : State) (event : Event) (next : State) → IsWellTyped trees state
      → step trees frames state event ≡ Some next → IsWellTyped trees next
  kept frames state event next h e = step_typed trees links accepted.typed instructs frames state h event next e

  pub right : (frames : ℕ) (events : List Event) (state : State) → run trees frames events ≡ Some state → (t : ℕ)
      → has_wrong_kind trees state t ≡ false
  right frames events state e t = run_right trees links accepted.typed instructs frames events state e t

  -- no event of a run is answered by a wrong kind
  pub unanswered : (frames : ℕ) (events : List Event) (state : State) (event : Event) → run trees frames events ≡ Some state
      → is_wrong (stepped values trees frames state event) ≡ false
  unanswered frames events state event e =
      never_wrong trees links.rooted (record { body = links.main.body; is_body = links.main.is_body }) frames state event (run_typed trees links accepted.typed instructs frames events (opening values trees) (opening_typed trees) state e)

pub no_event_wrong : IsNoEventWrong
no_event_wrong files trees accepted frames events state event e = unanswered files trees accepted frames events state event e
