-- An event ends its thread only where it empties the stack: what comes before that leaves a thread that has not ended.
use Rattle.std.proofs.Common.{◌≡◌, ℕ, zero, suc, List, [], ◌∷◌, Bool, true, false, ◌==◌, Option, Some, None, refl, sym, ap, ◌∙◌, subst}
use Rattle.std.specs.Prelude.{slice_get, slice_set, slice_index_or, nat_lt}
use Rattle.std.specs.Option.{option_map, option_map_or, option_and_then}
use Rattle.std.proofs.lemmas.Bool.{cond_both}
use Rattle.std.proofs.lemmas.Option.{get_or_from_slice_get}
use Rattle.model.specs.declared.class_file.ExceptionEntry.{ExceptionEntry}
use Rattle.model.specs.declared.event.Event.{Event}
use Rattle.model.specs.declared.value.Value.{Value}
use Rattle.model.specs.Names.{Name, Member, initialiser_of, main_of, thread_run, java_lang_error, java_lang_thread}
use Rattle.model.specs.Tree.{Entry, FieldTree, FileTree}
use Rattle.model.specs.Classes.{Program, Body, body_of, class_of}
use Rattle.model.specs.ReferenceTypes.{ReferenceType, ClassType}
use Rattle.model.specs.Types.{is_object_of}
use Rattle.model.specs.Instruction.{Sized}
use Rattle.model.specs.Operands.{values, under}
use Rattle.model.specs.Lookup.{select, field_member}
use Rattle.model.specs.Sites.{site_with}
use Rattle.model.specs.Meanings.{meaning_of}
use Rattle.model.specs.State.{types_of, InProgress, Erroneous, WakeCause, Notified, Interrupted, ThreadStatus, Running, Waiting, Relock, Ended, Thread, Frame, Phase, Super, End, Invocation, Initialisation, StackOf, World}
use Rattle.model.specs.Monitors as monitors
use Rattle.model.specs.Outcomes.{MachineException, NoClassDefFound, StackOverflow, IllegalMonitorState, InterruptedWait, AbstractMethod, OutcomeOf, Goes, Raises, Throws, Interrupts, Calls, Returns, Waits}
use Rattle.model.specs.Worlds.{no_thread, thread_at, has_ended, is_owner, may_enter, with_begun, with_status, with_interrupted, with_monitors, with_static, put_value, is_done, object_at, class_of_object}
use Rattle.model.specs.ClassInitialisation.{Look, IsReady, IsNew, IsHeld, HasFailed, look_by, status_of, constant_value, with_constant, with_constants, with_class_status, with_class_begun}
use Rattle.model.specs.Frames.{frame_count, at_call, frame_with}
use Rattle.model.specs.Step.{SteppedOf, NotEnabled, WrongKind, Next, PartOf, enabled_if, raised, raised_by_interrupt, needing, needing_class, entering, pushed, leaving, returned, become, ops_of, done, bytecode_by, bytecode_in, bytecode_event, initialiser_event, before, initialisation_event, initial_class, main_frame, run_frame, run_of, begin_event, handler_in, unwound, failed, pending_event, after_wait, relock_event, running_event, going_event, thread_event}
use Rattle.model.specs.Typing.{AreTyped}
use Rattle.model.specs.WellTyped.{is_object_in, Ready, IsRunning, IsStackTyped}
use Rattle.run_laws.proofs.laws.Linked.{Linked}
use Rattle.run_laws.proofs.typed_runs.Changes.{Fits, Live, OutcomeTyped}
use Rattle.run_laws.proofs.typed_runs.Flows.{InstructionsTyped, Flow, flow_of, here_of}

abbrev pub IsAlive : ℕ → World → Type 0
IsAlive t world = has_ended (thread_at world t).status ≡ false

abbrev pub Alive : ℕ → SteppedOf (PartOf Value) → Type 0
Alive t NotEnabled = Unit {0}
Alive t WrongKind = Unit {0}
Alive t (Next cost p) = IsAlive t p.world

set_alive : (threads : List Thread) (t : ℕ) (new : Thread) → has_ended new.status ≡ false
    → has_ended (slice_index_or (slice_set threads t new) t no_thread).status ≡ false
set_alive [] t new h = refl
set_alive (x ∷ xs) zero new h = h
set_alive (x ∷ xs) (suc t) new h = set_alive xs t new h

pub status_alive : (world : World) (t : ℕ) (thread : Thread) → slice_get world.threads t ≡ Some thread → has_ended thread.status ≡ false
    → IsAlive t world
status_alive world t thread there h = ap (λ (th : Thread). has_ended th.status) (get_or_from_slice_get world.threads t thread no_thread there) ∙ h

live_alive : (world : World) (t : ℕ) → Live world t → IsAlive t world
live_alive world t live = status_alive world t live.thread live.there (ap has_ended live.status)

module _ (files : Program) (t : ℕ) where
  enabled_alive : (b : Bool) (x : SteppedOf (PartOf Value)) → (b ≡ true → Alive t x) → Alive t (enabled_if b x)
  enabled_alive true x h = h refl
  enabled_alive false x h = tt

  raised_alive : (fault : MachineException) (world : World) (stack : StackOf Value) → IsAlive t world → Alive t (raised values files t fault world stack)
  raised_alive fault world stack h = set_alive world.threads t _ h

  interrupted_alive : (world : World) (stack : StackOf Value) → IsAlive t world → Alive t (raised_by_interrupt values files t world stack)
  interrupted_alive world stack h = raised_alive InterruptedWait (with_interrupted world t false) stack (set_alive world.threads t _ h)

  -- ---- calls and returns

  entering_alive : (world : World) (rest : StackOf Value) (frame : Frame) (o : Option ℕ) → IsAlive t world
      → Alive t (entering t world rest frame o)
  entering_alive world rest frame None h = h
  entering_alive world rest frame (Some object) h = enabled_alive (may_enter world t object) _ (λ q. h)

  pushed_alive : (frames : ℕ) (world after : World) (stack rest : StackOf Value) (frame : Frame) → IsAlive t world → IsAlive t after
      → Alive t (pushed values files frames t world after stack rest frame)
  pushed_alive frames world after stack rest frame h g =
      cond_both (nat_lt (frame_count stack) frames) _ _ (Alive t) (λ q. entering_alive after rest frame frame.entered g) (λ q. raised_alive StackOverflow world stack h)

  leaving_alive : (o : Option ℕ) (world : World) (rest stack : StackOf Value) → IsAlive t world → Alive t (leaving values files t o world rest stack)
  leaving_alive None world rest stack h = h
  leaving_alive (Some object) world rest stack h =
      cond_both (is_owner world t object) _ _ (Alive t) (λ q. h) (λ q. raised_alive IllegalMonitorState world stack h)

  -- ---- classes

  constant_alive : (world : World) (field : Member) (o : Option Value) → IsAlive t world
      → IsAlive t (option_map_or (λ v. with_static world field (put_value values field v)) o world)
  constant_alive world field None h = h
  constant_alive world field (Some v) h = h

  constants_alive : (class : Name) (pool : List Entry) (world : World) (fields : List FieldTree) → IsAlive t world
      → IsAlive t (with_constants values files class pool world fields)
  constants_alive class pool world [] h = h
  constants_alive class pool world (field ∷ fields) h =
      constants_alive class pool (with_constant values files class pool world field) fields (constant_alive world (field_member class pool field) (constant_value values files pool field) h)

  begun_alive : (class : Name) (world : World) → IsAlive t world → IsAlive t (with_class_begun values files t class world)
  begun_alive class world h = by (class_of files class)
    where
      by : (o : Option FileTree) → IsAlive t (option_map_or
          (λ (file : FileTree). with_constants values files class file.pool (with_class_status world class (InProgress t)) file.fields)
          o (with_class_status world class (InProgress t)))
      by None = h
      by (Some file) = constants_alive class file.pool (with_class_status world class (InProgress t)) file.fields h

  needing_alive : (class : Name) (look : Look) (world : World) (stack : StackOf Value) (rest : SteppedOf (PartOf Value))
      → IsAlive t world → Alive t rest → Alive t (needing values files t class look world stack rest)
  needing_alive class IsReady world stack rest h r = r
  needing_alive class IsNew world stack rest h r = begun_alive class world h
  needing_alive class IsHeld world stack rest h r = tt
  needing_alive class HasFailed world stack rest h r = raised_alive NoClassDefFound world stack h

  needing_class_alive : (class : Option Name) (world : World) (stack : StackOf Value) (rest : SteppedOf (PartOf Value))
      → IsAlive t world → Alive t rest → Alive t (needing_class values files t class world stack rest)
  needing_class_alive None world stack rest h r = r
  needing_class_alive (Some class) world stack rest h r = needing_alive class (look_by t (status_of world class)) world stack rest h r

  -- ---- instructions

  become_alive : (frames : ℕ) (world : World) (frame : Frame) (stack : StackOf Value) (o : OutcomeOf Value)
      → IsAlive t world → OutcomeTyped files t world frame o → Alive t (become values files frames t world frame stack o)
  become_alive frames world frame stack (Goes cost after slots to) h x = live_alive after t x.1.0
  become_alive frames world frame stack (Raises fault) h x = raised_alive fault world (Invocation frame ∷ stack) h
  become_alive frames world frame stack (Throws exception) h x = set_alive world.threads t _ h
  become_alive frames world frame stack Interrupts h x = interrupted_alive world (Invocation frame ∷ stack) h
  become_alive frames world frame stack (Calls callee rest) h x =
      pushed_alive frames world world (Invocation frame ∷ stack) (Invocation (at_call frame rest) ∷ stack) callee h h
  become_alive frames world frame stack (Returns after results) h x =
      leaving_alive frame.entered after (returned files results stack) (Invocation frame ∷ stack) (live_alive after t x.1.0)
  become_alive frames world frame stack (Waits cost after rest) h x =
      let w = x.1.0 in
      status_alive after t w.thread w.there (ap has_ended w.status)

  -- ---- what is no instruction

  failed_alive : (exception : ℕ) (b : Bool) (world : World) (stack : StackOf Value) → IsAlive t world → Alive t (failed values files t exception b world stack)
  failed_alive exception true world stack h = h
  failed_alive exception false world stack h = set_alive world.threads t _ h

  unwound_alive : (exception : ℕ) (world : World) (frame : Frame) (stack : StackOf Value) (o : Option ExceptionEntry) → IsAlive t world
      → Alive t (unwound values files t exception world frame stack o)
  unwound_alive exception world frame stack None h = leaving_alive frame.entered world stack stack h
  unwound_alive exception world frame stack (Some entry) h = set_alive world.threads t _ h

  pending_alive : (exception : ℕ) (thrown : Option ReferenceType) (world : World) (stack : StackOf Value)
      → IsAlive t world → Alive t (pending_event values files t exception thrown world stack)
  pending_alive exception thrown world [] h = tt
  pending_alive exception thrown world (Invocation frame ∷ stack) h =
      unwound_alive exception world frame stack (option_and_then (handler_in files frame.place.offset thrown) (body_of files frame.method)) h
  pending_alive exception thrown world (Initialisation class phase ∷ stack) h =
      failed_alive exception (is_object_of files (ClassType java_lang_error) thrown) (with_class_status world class Erroneous) stack h

  after_alive : (cause : WakeCause) (world : World) (stack : StackOf Value) → IsAlive t world
      → Alive t (after_wait values files t cause world stack)
  after_alive Notified world stack h = h
  after_alive Interrupted world stack h = interrupted_alive world stack h

  relock_alive : (object count : ℕ) (cause : WakeCause) (world : World) (stack : StackOf Value)
      → Alive t (relock_event values files t object count cause world stack)
  relock_alive object count cause world stack =
      enabled_alive (is_done (monitors.relock object t count world.monitors).answer) _
      (λ q. after_alive cause (with_status (with_monitors world (monitors.relock object t count world.monitors)) t Running) stack (set_alive world.threads t _ refl))

  initialiser_alive : (frames : ℕ) (initialiser : Member) (world : World) (stack : StackOf Value) (o : Option Body) → IsAlive t world
      → Alive t (initialiser_event values files frames t initialiser world stack o)
  initialiser_alive frames initialiser world stack None h = h
  initialiser_alive frames initialiser world stack (Some body) h = pushed_alive frames world world stack stack (frame_with values initialiser [] None body) h h

  initialisation_alive : (frames : ℕ) (class : Name) (phase : Phase) (world : World) (stack : StackOf Value)
      → IsAlive t world → Alive t (initialisation_event values files frames t class phase world stack)
  initialisation_alive frames class Super world stack h =
      needing_class_alive (before files class) world (Initialisation class Super ∷ stack) _ h (initialiser_alive frames (initialiser_of class) world (Initialisation class End ∷ stack) (body_of files (initialiser_of class)) h)
  initialisation_alive frames class End world stack h = h

  run_frame_alive : (frames : ℕ) (world : World) (object : ℕ) (method : Member) (o : Option Body) → IsAlive t world
      → Alive t (run_frame values files frames t world object method o)
  run_frame_alive frames world object method None h = raised_alive AbstractMethod world [] h
  run_frame_alive frames world object method (Some body) h = pushed_alive frames world (with_begun world t) [] [] _ h (set_alive world.threads t _ h)

  run_of_alive : (frames : ℕ) (world : World) (object : ℕ) (o : Option Member) → IsAlive t world
      → Alive t (run_of values files frames t world object o)
  run_of_alive frames world object None h = raised_alive AbstractMethod world [] h
  run_of_alive frames world object (Some method) h = run_frame_alive frames world object method (body_of files method) h

main_frame_alive : (files : Program) (frames : ℕ) (world : World) (main : Member) (o : Option Body) → IsAlive 0 world
    → Alive 0 (main_frame values files frames world main o)
main_frame_alive files frames world main None h = tt
main_frame_alive files frames world main (Some body) h = pushed_alive files 0 frames world (with_begun world 0) [] [] _ h (set_alive world.threads 0 _ h)

begin_alive : (files : Program) (frames : ℕ) (world : World) (t : ℕ) → IsAlive t world → Alive t (begin_event values files frames world t)
begin_alive files frames world zero h =
    needing_class_alive files 0 (Some (initial_class files)) world [] _ h (main_frame_alive files frames world (main_of (initial_class files)) (body_of files (main_of (initial_class files))) h)
begin_alive files frames world (suc t) h =
    let object = (thread_at world (suc t)).object in
    run_of_alive files (suc t) frames world object (select files (class_of_object (object_at world object)) thread_run) h

-- ---- an event

module _ (files : Program) (linked : Linked files) (accepted : AreTyped files) (instructions : InstructionsTyped files) (frames : ℕ)
    (event : Event) (world : World) (fits : Fits files world) where
  module _ (live : Live world event.thread) (self : is_object_in files (types_of world.heap) java_lang_thread (thread_at world event.thread).object ≡ true) (frame : Frame) (stack : StackOf Value) (ready : Ready files (types_of world.heap) frame) where
    alive : IsAlive event.thread world
    alive = live_alive world event.thread live

    done_alive : (flow : Flow files frame ready.stopped.stands)
        → flow.meaning.may event world (ops_of values flow.meaning frame.place.slots) ≡ true
        → Alive event.thread (done values files frames event world frame stack flow.meaning)
    done_alive flow may =
        become_alive files event.thread frames world frame stack (flow.meaning.does event world frame.place.slots (ops_of values flow.meaning frame.place.slots) (under flow.meaning.wants frame.place.slots)) alive
        (instructions event world frame (site_with frame.method ready.stopped.stands.body frame.place.offset flow.sized) (here_of files linked accepted event.thread world frame fits live self ready flow.sized flow.is_sized) flow.meaning flow.is_meaning flow.allows may)

    meant_alive : (max_stack : ℕ) (flow : Flow files frame ready.stopped.stands)
        → Alive event.thread (bytecode_by values files frames event world frame stack max_stack (Some flow.meaning))
    meant_alive max_stack flow =
        let m = flow.meaning in
        cond_both (values.finds files (types_of world.heap) m.wants max_stack frame.place.slots) _ _ (Alive event.thread)
        (λ q. enabled_alive files event.thread (m.may event world (ops_of values m frame.place.slots)) _
        (λ may. needing_class_alive files event.thread m.looks world (Invocation frame ∷ stack) (done values files frames event world frame stack m) alive (done_alive flow may)))
        (λ q. enabled_alive files event.thread (event.pick == 0) WrongKind (λ p. tt))

    bytecode_alive : Alive event.thread (bytecode_event values files frames event world frame stack)
    bytecode_alive =
        let stands = ready.stopped.stands in
        let flow = flow_of files frame stands in
        let at = ap (λ (o : Option Sized). option_and_then (meaning_of values files) (option_map (site_with frame.method stands.body frame.place.offset) o)) flow.is_sized in
        subst (λ o. Alive event.thread (bytecode_in values files frames event world frame stack o)) (sym stands.is_body)
        (subst (λ o. Alive event.thread (bytecode_by values files frames event world frame stack stands.body.code.max_stack o)) (sym (at ∙ flow.is_meaning))
        (meant_alive stands.body.code.max_stack flow))

  module _ (thread : Thread) (there : slice_get world.threads event.thread ≡ Some thread) (self : is_object_in files (types_of world.heap) java_lang_thread (thread_at world event.thread).object ≡ true) where
    running_alive : thread.status ≡ Running → thread.pending ≡ None → (stack : StackOf Value)
        → IsRunning files (types_of world.heap) None stack → Alive event.thread (running_event values files frames event world stack)
    running_alive runs none [] h =
        enabled_alive files event.thread (event.pick == 0) _ (λ q. begin_alive files frames world event.thread (status_alive world event.thread thread there (ap has_ended runs)))
    running_alive runs none (Invocation frame ∷ stack) h =
        bytecode_alive (record { thread = thread; there = there; status = runs; pending = none }) self frame stack h.0
    running_alive runs none (Initialisation class phase ∷ stack) h =
        enabled_alive files event.thread (event.pick == 0) _ (λ q. initialisation_alive files event.thread frames class phase world stack (status_alive world event.thread thread there (ap has_ended runs)))

    going_alive : thread.status ≡ Running → (stack : StackOf Value) (pending : Option ℕ) → thread.pending ≡ pending
        → IsRunning files (types_of world.heap) pending stack
        → Alive event.thread (going_event values files frames event world stack pending)
    going_alive runs stack None e h = running_alive runs e stack h
    going_alive runs stack (Some exception) e h =
        enabled_alive files event.thread (event.pick == 0) _ (λ q. pending_alive files event.thread exception (slice_get (types_of world.heap) exception) world stack (status_alive world event.thread thread there (ap has_ended runs)))

    pub thread_alive : (stack : StackOf Value) (status : ThreadStatus) → thread.status ≡ status
        → IsStackTyped files (types_of world.heap) thread.pending stack status
        → Alive event.thread (thread_event values files frames event world stack status)
    thread_alive stack Running e h =
        let is = ap (λ (th : Thread). th.pending) (get_or_from_slice_get world.threads event.thread thread no_thread there) in
        subst (λ p. Alive event.thread (going_event values files frames event world stack p)) (sym is) (going_alive e stack thread.pending refl h)
    thread_alive stack (Waiting object count) e h = tt
    thread_alive stack (Relock object count cause) e h =
        enabled_alive files event.thread (event.pick == 0) _ (λ q. relock_alive files event.thread object count cause world stack)
    thread_alive stack (Ended exception) e h = tt
