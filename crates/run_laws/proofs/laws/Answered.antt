-- From a well-typed state no event is answered by a wrong kind.
use Rattle.std.proofs.Common.{◌≡◌, ℕ, zero, suc, List, [], ◌∷◌, Bool, true, false, ◌==◌, Option, Some, None, refl, sym, subst}
use Rattle.std.specs.Prelude.{slice_get, slice_index_or, nat_lt, if◌then◌else◌}
use Rattle.std.specs.Option.{option_and_then}
use Rattle.std.proofs.lemmas.Bool.{false≢true}
use Rattle.model.specs.declared.event.Event.{Event}
use Rattle.model.specs.declared.value.Value.{Value}
use Rattle.model.specs.declared.value.Value.TheVariants as value
use Rattle.model.specs.declared.class_file.ExceptionEntry.{ExceptionEntry}
use Rattle.model.specs.Names.{Name, Member, main_of, initialiser_of, thread_run, java_lang_error}
use Rattle.model.specs.Classes.{Program, Body, body_of}
use Rattle.model.specs.ReferenceTypes.{ReferenceType, ClassType}
use Rattle.model.specs.Types.{is_object_of}
use Rattle.model.specs.Operands.{values, under}
use Rattle.model.specs.State.{types_of, ThreadStatus, Running, Waiting, Relock, Erroneous, Ended, Thread, Frame, Invocation, Initialisation, Phase, Super, End, StackOf, World, State, WakeCause, Notified, Interrupted}
use Rattle.model.specs.Outcomes.{StackOverflow, IllegalMonitorState, OutcomeOf, Goes, Raises, Throws, Interrupts, Calls, Returns, Waits}
use Rattle.model.specs.Worlds.{thread_at, no_thread, may_enter, entry_cost, with_entry, is_owner, with_exit, with_begun, with_status, with_monitors, is_done, object_at, class_of_object}
use Rattle.model.specs.Monitors as monitors
use Rattle.model.specs.Frames.{frame_count, at_call, frame_with, entered_by}
use Rattle.model.specs.Opening.{arguments_reference, class_reference}
use Rattle.model.specs.Lookup.{select}
use Rattle.model.specs.ClassInitialisation.{with_class_status, Look, IsReady, IsNew, IsHeld, HasFailed, look_by, status_of}
use Rattle.model.specs.Sites.{MeaningOf, site_at}
use Rattle.model.specs.Meanings.{meaning_of}
use Rattle.model.specs.Step.{SteppedOf, NotEnabled, WrongKind, Next, PartOf, enabled_if, unpicked, settled, raised, needing, needing_class, entering, pushed, leaving, become, part, on_to, before, handler_in, returned, ops_of, done, bytecode_by, bytecode_in, initialiser_event, initialisation_event, initial_class, main_frame, main_event, run_frame, run_of, begin_event, unwound, failed, pending_event, after_wait, relock_event, running_event, going_event, thread_event, with_part, event_of, stepped}
use Rattle.model.specs.WrongKind.{finds_operands, finds_in}
use Rattle.model.specs.WellTyped.{IsRunning, IsStackTyped, IsThreadTyped, AreThreadsTyped, IsWellTyped}
use Rattle.run_laws.specs.laws.Steps.{Rooted, HasMain, is_wrong}
use Rattle.run_laws.proofs.laws.Progress.{ready_finds}

abbrev Part : Type 0
Part = SteppedOf (PartOf Value)

abbrev Right : Part → Type 0
Right x = is_wrong x ≡ false

settled_same : (t : ℕ) (x : Part) → Right x → Right (settled t x)
settled_same t NotEnabled h = refl
settled_same t WrongKind h = h
settled_same t (Next cost p) h = refl

put_same : (s : State) (t : ℕ) (x : Part) → Right x → is_wrong (with_part s t x) ≡ false
put_same s t NotEnabled h = refl
put_same s t WrongKind h = h
put_same s t (Next cost p) h = refl

enabled_right : (b : Bool) (x : Part) → Right x → Right (enabled_if b x)
enabled_right true x h = h
enabled_right false x h = refl

if_right : (b : Bool) (x y : Part) → Right x → Right y → Right (if b then x else y)
if_right true x y h g = h
if_right false x y h g = g

module _ (files : Program) where
  needing_right : (t : ℕ) (class : Name) (look : Look) (world : World) (stack : StackOf Value) (rest : Part) → Right rest
      → Right (needing values files t class look world stack rest)
  needing_right t class IsReady world stack rest h = h
  needing_right t class IsNew world stack rest h = refl
  needing_right t class IsHeld world stack rest h = refl
  needing_right t class HasFailed world stack rest h = refl

  needing_class_right : (t : ℕ) (class : Option Name) (world : World) (stack : StackOf Value) (rest : Part) → Right rest
      → Right (needing_class values files t class world stack rest)
  needing_class_right t None world stack rest h = h
  needing_class_right t (Some class) world stack rest h = needing_right t class (look_by t (status_of world class)) world stack rest h

  entering_right : (t : ℕ) (world : World) (rest : StackOf Value) (frame : Frame) (o : Option ℕ) → Right (entering t world rest frame o)
  entering_right t world rest frame None = refl
  entering_right t world rest frame (Some object) =
      enabled_right (may_enter world t object) (Next (entry_cost world object) (part (with_entry world t object) (Invocation frame ∷ rest))) refl

  pushed_right : (frames t : ℕ) (world after : World) (stack rest : StackOf Value) (frame : Frame)
      → Right (pushed values files frames t world after stack rest frame)
  pushed_right frames t world after stack rest frame =
      if_right (nat_lt (frame_count stack) frames) (entering t after rest frame frame.entered) (raised values files t StackOverflow world stack) (entering_right t after rest frame frame.entered) refl

  leaving_right : (t : ℕ) (o : Option ℕ) (world : World) (rest stack : StackOf Value) → Right (leaving values files t o world rest stack)
  leaving_right t None world rest stack = refl
  leaving_right t (Some object) world rest stack =
      if_right (is_owner world t object) (on_to (with_exit world t object) rest) (raised values files t IllegalMonitorState world stack) refl refl

  become_right : (frames t : ℕ) (world : World) (frame : Frame) (stack : StackOf Value) (o : OutcomeOf Value)
      → Right (become values files frames t world frame stack o)
  become_right frames t world frame stack (Goes cost after slots to) = refl
  become_right frames t world frame stack (Raises fault) = refl
  become_right frames t world frame stack (Throws exception) = refl
  become_right frames t world frame stack Interrupts = refl
  become_right frames t world frame stack (Calls callee rest) =
      pushed_right frames t world world (Invocation frame ∷ stack) (Invocation (at_call frame rest) ∷ stack) callee
  become_right frames t world frame stack (Returns after results) =
      leaving_right t frame.entered after (returned files results stack) (Invocation frame ∷ stack)
  become_right frames t world frame stack (Waits cost after rest) = refl

  bytecode_by_right : (frames : ℕ) (event : Event) (world : World) (frame : Frame) (stack : StackOf Value) (max_stack : ℕ)
      (o : Option (MeaningOf Value)) → finds_operands files (types_of world.heap) max_stack frame o ≡ true
      → Right (bytecode_by values files frames event world frame stack max_stack o)
  bytecode_by_right frames event world frame stack max_stack None h = absurd (false≢true h)
  bytecode_by_right frames event world frame stack max_stack (Some meaning) h =
      subst (λ b. Right (if b then enabled_if (meaning.may event world (ops_of values meaning frame.place.slots)) (needing_class values files event.thread meaning.looks world (Invocation frame ∷ stack) (done values files frames event world frame stack meaning)) else unpicked event WrongKind)) (sym h)
      (enabled_right (meaning.may event world (ops_of values meaning frame.place.slots)) (needing_class values files event.thread meaning.looks world (Invocation frame ∷ stack) (done values files frames event world frame stack meaning))
      (needing_class_right event.thread meaning.looks world (Invocation frame ∷ stack) (done values files frames event world frame stack meaning)
      (become_right frames event.thread world frame stack (meaning.does event world frame.place.slots (ops_of values meaning frame.place.slots) (under meaning.wants frame.place.slots)))))

  bytecode_in_right : (frames : ℕ) (event : Event) (world : World) (frame : Frame) (stack : StackOf Value) (o : Option Body)
      → finds_in files (types_of world.heap) frame o ≡ true → Right (bytecode_in values files frames event world frame stack o)
  bytecode_in_right frames event world frame stack None h = absurd (false≢true h)
  bytecode_in_right frames event world frame stack (Some body) h =
      bytecode_by_right frames event world frame stack body.code.max_stack (option_and_then (meaning_of values files) (site_at frame.method body frame.place.offset)) h

  initialiser_right : (frames t : ℕ) (m : Member) (world : World) (stack : StackOf Value) (o : Option Body)
      → Right (initialiser_event values files frames t m world stack o)
  initialiser_right frames t m world stack None = refl
  initialiser_right frames t m world stack (Some body) = pushed_right frames t world world stack stack (frame_with values m [] None body)

  initialisation_right : (frames t : ℕ) (class : Name) (phase : Phase) (world : World) (stack : StackOf Value)
      → Right (initialisation_event values files frames t class phase world stack)
  initialisation_right frames t class Super world stack =
      needing_class_right t (before files class) world (Initialisation class Super ∷ stack)
      (initialiser_event values files frames t (initialiser_of class) world (Initialisation class End ∷ stack) (body_of files (initialiser_of class)))
      (initialiser_right frames t (initialiser_of class) world (Initialisation class End ∷ stack) (body_of files (initialiser_of class)))
  initialisation_right frames t class End world stack = refl

  run_frame_right : (frames t : ℕ) (world : World) (object : ℕ) (m : Member) (o : Option Body)
      → Right (run_frame values files frames t world object m o)
  run_frame_right frames t world object m None = refl
  run_frame_right frames t world object m (Some body) =
      pushed_right frames t world (with_begun world t) [] [] (frame_with values m (value.Reference object ∷ []) (entered_by files m object) body)

  run_of_right : (frames t : ℕ) (world : World) (object : ℕ) (o : Option Member) → Right (run_of values files frames t world object o)
  run_of_right frames t world object None = refl
  run_of_right frames t world object (Some m) = run_frame_right frames t world object m (body_of files m)

  main_right : HasMain files → (frames : ℕ) (world : World) → Right (main_event values files frames world)
  main_right main frames world =
      needing_class_right 0 (Some (initial_class files)) world [] (main_frame values files frames world (main_of (initial_class files)) (body_of files (main_of (initial_class files))))
      (subst (λ o. Right (main_frame values files frames world (main_of (initial_class files)) o)) (sym main.is_body)
      (pushed_right frames 0 world (with_begun world 0) [] []
      (frame_with values (main_of (initial_class files)) (value.Reference arguments_reference ∷ []) (entered_by files (main_of (initial_class files)) (class_reference files (initial_class files))) main.body)))

  begin_right : HasMain files → (frames : ℕ) (world : World) (t : ℕ) → Right (begin_event values files frames world t)
  begin_right main frames world zero = main_right main frames world
  begin_right main frames world (suc t) =
      run_of_right frames (suc t) world (thread_at world (suc t)).object (select files (class_of_object (object_at world (thread_at world (suc t)).object)) thread_run)

  unwound_right : (t exception : ℕ) (world : World) (frame : Frame) (stack : StackOf Value) (o : Option ExceptionEntry)
      → Right (unwound values files t exception world frame stack o)
  unwound_right t exception world frame stack None = leaving_right t frame.entered world stack stack
  unwound_right t exception world frame stack (Some entry) = refl

  failed_right : (t exception : ℕ) (b : Bool) (world : World) (stack : StackOf Value) → Right (failed values files t exception b world stack)
  failed_right t exception true world stack = refl
  failed_right t exception false world stack = refl

  pending_right : (t exception : ℕ) (thrown : Option ReferenceType) (world : World) (stack : StackOf Value)
      → Right (pending_event values files t exception thrown world stack)
  pending_right t exception thrown world [] = refl
  pending_right t exception thrown world (Invocation frame ∷ stack) =
      unwound_right t exception world frame stack (option_and_then (handler_in files frame.place.offset thrown) (body_of files frame.method))
  pending_right t exception thrown world (Initialisation class phase ∷ stack) =
      failed_right t exception (is_object_of files (ClassType java_lang_error) thrown) (with_class_status world class Erroneous) stack

  after_wait_right : (t : ℕ) (cause : WakeCause) (world : World) (stack : StackOf Value) → Right (after_wait values files t cause world stack)
  after_wait_right t Notified world stack = refl
  after_wait_right t Interrupted world stack = refl

  module _ (rooted : Rooted files) (main : HasMain files) (frames : ℕ) (event : Event) (world : World) where
    running_right : (stack : StackOf Value) → IsRunning files (types_of world.heap) None stack
        → Right (running_event values files frames event world stack)
    running_right [] h = enabled_right (event.pick == 0) (begin_event values files frames world event.thread) (begin_right main frames world event.thread)
    running_right (Invocation frame ∷ stack) h =
        bytecode_in_right frames event world frame stack (body_of files frame.method) (ready_finds files rooted (types_of world.heap) frame h.0)
    running_right (Initialisation class phase ∷ stack) h =
        enabled_right (event.pick == 0) (initialisation_event values files frames event.thread class phase world stack) (initialisation_right frames event.thread class phase world stack)

    going_right : (stack : StackOf Value) (pending : Option ℕ) → IsRunning files (types_of world.heap) pending stack
        → Right (going_event values files frames event world stack pending)
    going_right stack None h = running_right stack h
    going_right stack (Some exception) h =
        enabled_right (event.pick == 0) (pending_event values files event.thread exception (slice_get (types_of world.heap) exception) world stack) (pending_right event.thread exception (slice_get (types_of world.heap) exception) world stack)

    event_right : (stack : StackOf Value) (thread : Thread) (status : ThreadStatus) → thread_at world event.thread ≡ thread
        → IsStackTyped files (types_of world.heap) thread.pending stack status
        → Right (thread_event values files frames event world stack status)
    event_right stack thread Running e h =
        subst (λ (th : Thread). Right (going_event values files frames event world stack th.pending)) (sym e) (going_right stack thread.pending h)
    event_right stack thread (Waiting object count) e h = refl
    event_right stack thread (Relock object count cause) e h =
        let after = with_status (with_monitors world (monitors.relock object event.thread count world.monitors)) event.thread Running in
        enabled_right (event.pick == 0) (relock_event values files event.thread object count cause world stack)
        (enabled_right (is_done (monitors.relock object event.thread count world.monitors).answer) (after_wait values files event.thread cause after stack) (after_wait_right event.thread cause after stack))
    event_right stack thread (Ended exception) e h = refl

-- the thread of a stack
pub thread_of_stack : (files : Program) (os : List ReferenceType) (threads : List Thread) (stacks : List (StackOf Value)) (t : ℕ)
    (stack : StackOf Value) → AreThreadsTyped files os threads stacks → slice_get stacks t ≡ Some stack
    → IsThreadTyped files os (slice_index_or threads t no_thread) stack
thread_of_stack files os threads [] t stack h e = absurd cc
thread_of_stack files os [] (s ∷ stacks) t stack h e = absurd h
thread_of_stack files os (thread ∷ threads) (s ∷ stacks) zero stack h e = let q : s ≡ stack = cc in subst (IsThreadTyped files os thread) q h.0
thread_of_stack files os (thread ∷ threads) (s ∷ stacks) (suc t) stack h e = thread_of_stack files os threads stacks t stack h.1 e

event_of_right : (files : Program) → Rooted files → HasMain files → (frames : ℕ) (state : State) (event : Event) → IsWellTyped files state
    → (o : Option (StackOf Value)) → slice_get state.stacks event.thread ≡ o → is_wrong (event_of values files frames state event o) ≡ false
event_of_right files rooted main frames state event h None e = refl
event_of_right files rooted main frames state event h (Some stack) e =
    let thread = thread_at state.world event.thread in
    let typed = thread_of_stack files (types_of state.world.heap) state.world.threads state.stacks event.thread stack h.threads e in
    let x = thread_event values files frames event state.world stack thread.status in
    put_same state event.thread (settled event.thread x) (settled_same event.thread x (event_right files rooted main frames event state.world stack thread thread.status refl typed.stack_typed))

pub never_wrong : (files : Program) → Rooted files → HasMain files → (frames : ℕ) (state : State) (event : Event) → IsWellTyped files state
    → is_wrong (stepped values files frames state event) ≡ false
never_wrong files rooted main frames state event h = event_of_right files rooted main frames state event h (slice_get state.stacks event.thread) refl
