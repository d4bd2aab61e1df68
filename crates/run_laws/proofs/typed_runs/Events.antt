-- The events of a thread that are no instruction: an exception, a class that is initialised, a thread that begins, and one that
-- has left a wait set.
use Rattle.std.proofs.Common.{◌≡◌, ℕ, [], ◌∷◌, Bool, true, false, Option, Some, None, refl, sym, ap, ◌∙◌, subst}
use Rattle.std.specs.Prelude.{slice_get}
use Rattle.std.specs.Option.{option_and_then}
use Rattle.std.proofs.lemmas.Option.{get_or_from_slice_get}
use Rattle.model.specs.declared.class_file.ExceptionEntry.{ExceptionEntry}
use Rattle.model.specs.declared.value.Value.{Value}
use Rattle.model.specs.declared.value.Value.TheVariants as value
use Rattle.model.specs.Names.{Name, initialiser_of, java_lang_error, java_lang_throwable}
use Rattle.model.specs.Classes.{Program, Body, body_of}
use Rattle.model.specs.ReferenceTypes.{ReferenceType, ClassType}
use Rattle.model.specs.Types.{is_object_of}
use Rattle.model.specs.Operands.{values}
use Rattle.model.specs.State.{types_of, Running, Erroneous, Initialised, WakeCause, Notified, Interrupted, Thread, Frame, Invocation, Initialisation, Phase, Super, End, StackOf, World}
use Rattle.model.specs.Monitors as monitors
use Rattle.model.specs.Outcomes.{ExceptionInInitializer}
use Rattle.model.specs.Worlds.{no_thread, thread_at, with_caught, with_status, with_monitors, is_done}
use Rattle.model.specs.ClassInitialisation.{with_class_status}
use Rattle.model.specs.Calls.{result_types}
use Rattle.model.specs.Frames.{at_offset, frame_with}
use Rattle.model.specs.Step.{returned, initialiser_event, before, initialisation_event, handler_in, unwound, failed, pending_event, after_wait, relock_event}
use Rattle.model.specs.Typing.{AreTyped}
use Rattle.model.specs.WellTyped.{is_object_in, Results, Instruction, Beneath, Failing, IsRunning, Stopped}
use Rattle.run_laws.proofs.typed_runs.Invariant.{failing_from}
use Rattle.run_laws.proofs.typed_runs.Frames.{returned_typed}
use Rattle.run_laws.proofs.laws.Linked.{Linked}
use Rattle.run_laws.proofs.typed_runs.WorldChanges.{class_status_keeps, relock_keeps}
use Rattle.run_laws.proofs.typed_runs.NewFrames.{opened_ready, initialiser_arguments}
use Rattle.run_laws.proofs.typed_runs.Handlers.{handled_ready}
use Rattle.run_laws.proofs.typed_runs.StepParts.{At, OnPart, at_same, own_at, on_typed, raised_for_typed, interrupted_typed, idle_running}
use Rattle.run_laws.proofs.typed_runs.Entering.{BegunKeeps, enabled_typed, going_typed, pushed_typed, leaving_typed, needing_class_typed}

module _ (files : Program) (linked : Linked files) (t : ℕ) (world : World) (thread : Thread)
    (there : slice_get world.threads t ≡ Some thread) (start : At files t world world thread) where
  is_at : thread_at world t ≡ thread
  is_at = get_or_from_slice_get world.threads t thread no_thread there

  runs_at : thread.status ≡ Running → (thread_at world t).status ≡ Running
  runs_at runs = ap (λ (th : Thread). th.status) is_at ∙ runs

  -- ---- an exception is pending

  module _ (runs : thread.status ≡ Running) (exception : ℕ) (pending : thread.pending ≡ Some exception) (throwable : is_object_in files (types_of world.heap) java_lang_throwable exception ≡ true) where
    unwound_typed : (frame : Frame) (stack : StackOf Value) → Stopped files (types_of world.heap) frame
        → Beneath files (types_of world.heap) (Results (result_types files frame.method)) stack → (o : Option ExceptionEntry)
        → option_and_then (handler_in files frame.place.offset (slice_get (types_of world.heap) exception)) (body_of files frame.method)
        ≡ o → OnPart files t world (unwound values files t exception world frame stack o)
    unwound_typed frame stack stopped beneath None e =
        let failing = failing_from files (types_of world.heap) (Results (result_types files frame.method)) stack beneath in
        leaving_typed files linked.rooted t world thread there frame.entered world thread stack stack start runs (subst (λ p. IsRunning files (types_of world.heap) p stack) (sym pending) (throwable, failing)) failing
    unwound_typed frame stack stopped beneath (Some entry) e =
        let new = record (thread_at world t) { pending = None } in
        going_typed files linked.rooted t world thread there (with_caught world t) new (Invocation (at_offset frame entry.handler (record { locals = frame.place.slots.locals; stack = value.Reference exception ∷ [] })) ∷ stack)
        (own_at files t world thread there world thread new start refl (idle_running new (runs_at runs))) (runs_at runs) refl
        (handled_ready files linked (types_of world.heap) frame stopped exception entry throwable e, beneath)

    failed_typed : (class : Name) (stack : StackOf Value) → Failing files (types_of world.heap) stack → (b : Bool)
        → OnPart files t world (failed values files t exception b (with_class_status world class Erroneous) stack)
    failed_typed class stack failing true =
        on_typed files t world thread there (with_class_status world class Erroneous) thread stack (at_same files t world thread there world (with_class_status world class Erroneous) thread start (class_status_keeps files world start.changes.fits class Erroneous) refl) runs
        (subst (λ p. IsRunning files (types_of world.heap) p stack) (sym pending) (throwable, failing))
    failed_typed class stack failing false =
        raised_for_typed files t world thread there linked.rooted ExceptionInInitializer (Some exception) (with_class_status world class Erroneous) thread stack throwable (at_same files t world thread there world (with_class_status world class Erroneous) thread start (class_status_keeps files world start.changes.fits class Erroneous) refl) runs failing

    pub pending_event_typed : (thrown : Option ReferenceType) → slice_get (types_of world.heap) exception ≡ thrown
        → (stack : StackOf Value) → Failing files (types_of world.heap) stack
        → OnPart files t world (pending_event values files t exception (slice_get (types_of world.heap) exception) world stack)
    pending_event_typed thrown e [] h = tt
    pending_event_typed thrown e (Invocation frame ∷ stack) h =
        unwound_typed frame stack h.0 h.1 (option_and_then (handler_in files frame.place.offset (slice_get (types_of world.heap) exception)) (body_of files frame.method)) refl
    pending_event_typed thrown e (Initialisation class phase ∷ stack) h =
        failed_typed class stack (failing_from files (types_of world.heap) Instruction stack h) (is_object_of files (ClassType java_lang_error) (slice_get (types_of world.heap) exception))

  -- ---- a thread that has left a wait set

  after_typed : (cause : WakeCause) (after : World) (new : Thread) (stack : StackOf Value) → At files t world after new
      → new.status ≡ Running → new.pending ≡ None → Beneath files (types_of after.heap) (Results []) stack
      → OnPart files t world (after_wait values files t cause after stack)
  after_typed Notified after new stack at runs none beneath =
      going_typed files linked.rooted t world thread there after new (returned files [] stack) at runs none (returned_typed files linked.rooted (types_of after.heap) [] stack [] beneath refl)
  after_typed Interrupted after new stack at runs none beneath =
      interrupted_typed files t world thread there linked.rooted after new stack at runs (failing_from files (types_of after.heap) (Results []) stack beneath)

  pub relock_typed : (object count : ℕ) (cause : WakeCause) (stack : StackOf Value) → thread.pending ≡ None
      → Beneath files (types_of world.heap) (Results []) stack → OnPart files t world (relock_event values files t object count cause world stack)
  relock_typed object count cause stack none beneath =
      let locked = with_monitors world (monitors.relock object t count world.monitors) in
      let new = record (thread_at locked t) { status = Running } in
      let at = at_same files t world thread there world locked thread start (relock_keeps files world start.changes.fits t object count) refl in
      enabled_typed files t world (is_done (monitors.relock object t count world.monitors).answer) (after_wait values files t cause (with_status locked t Running) stack)
      (after_typed cause (with_status locked t Running) new stack (own_at files t world thread there locked thread new at refl (λ object. refl)) refl (ap (λ (th : Thread). th.pending) is_at ∙ none) beneath)

  -- ---- a class on top of the stack

  module _ (accepted : AreTyped files) (begun_keeps : BegunKeeps files) (frames : ℕ) (runs : thread.status ≡ Running) (none : thread.pending ≡ None) where
    initialiser_typed : (class : Name) (stack : StackOf Value) → Beneath files (types_of world.heap) Instruction stack → (o : Option Body)
        → body_of files (initialiser_of class) ≡ o
        → OnPart files t world (initialiser_event values files frames t (initialiser_of class) world (Initialisation class End ∷ stack) o)
    initialiser_typed class stack beneath None e = going_typed files linked.rooted t world thread there world thread (Initialisation class End ∷ stack) start runs none beneath
    initialiser_typed class stack beneath (Some body) e =
        pushed_typed files linked.rooted t world thread there frames world world thread thread (Initialisation class End ∷ stack) (Initialisation class End ∷ stack) (frame_with values (initialiser_of class) [] None body) start runs start runs none beneath
        (opened_ready files linked.rooted (types_of world.heap) (initialiser_of class) body [] None e (accepted (initialiser_of class) body e) (initialiser_arguments files (types_of world.heap) class), beneath)

    pub initialisation_typed : (class : Name) (phase : Phase) (stack : StackOf Value)
        → Beneath files (types_of world.heap) Instruction stack
        → OnPart files t world (initialisation_event values files frames t class phase world stack)
    initialisation_typed class Super stack beneath =
        needing_class_typed files linked.rooted t world thread there begun_keeps (before files class) world thread (Initialisation class Super ∷ stack) _ start runs none beneath
        (initialiser_typed class stack beneath (body_of files (initialiser_of class)) refl)
    initialisation_typed class End stack beneath =
        going_typed files linked.rooted t world thread there (with_class_status world class Initialised) thread stack (at_same files t world thread there world (with_class_status world class Initialised) thread start (class_status_keeps files world start.changes.fits class Initialised) refl) runs none beneath
