-- How many objects there are after each event.
use Rattle.std.proofs.Common.{◌≡◌, ℕ, zero, suc, ◌+◌, List, [], ◌∷◌, length, nat_lt, Bool, true, false, ◌==◌, Option, Some, None, refl, ◌∙◌, subst}
use Rattle.std.specs.Prelude.{slice_get, if◌then◌else◌}
use Rattle.std.specs.Option.{option_map_or, option_and_then}
use Rattle.std.proofs.lemmas.List.{length_push}
use Rattle.model.specs.declared.event.Event.{Event}
use Rattle.model.specs.declared.class_file.ExceptionEntry.{ExceptionEntry}
use Rattle.model.specs.Names.{Name, Member, main_of, thread_run, initialiser_of, java_lang_error}
use Rattle.model.specs.Tree.{Entry, FieldTree, FileTree}
use Rattle.model.specs.Classes.{Program, Body, body_of, class_of}
use Rattle.model.specs.ReferenceTypes.{ReferenceType, ClassType}
use Rattle.model.specs.Types.{is_object_of}
use Rattle.model.specs.Operands.{Carrier, words, values, under}
use Rattle.model.specs.Lookup.{select, field_member}
use Rattle.model.specs.Opening.{arguments_reference, class_reference}
use Rattle.model.specs.State.{types_of, InProgress, Erroneous, WakeCause, Notified, Interrupted, ThreadStatus, Running, Waiting, Relock, Ended, FrameOf, Phase, Super, End, Invocation, Initialisation, StackOf, WorldOf, StateOf}
use Rattle.model.specs.Outcomes.{MachineException, OutcomeOf, Goes, Raises, Throws, Interrupts, Calls, Returns, Waits, NoClassDefFound, StackOverflow, IllegalMonitorState, InterruptedWait, AbstractMethod, ExceptionInInitializer}
use Rattle.model.specs.MachineExceptions.{machine_exception}
use Rattle.model.specs.Monitors as monitors
use Rattle.model.specs.Worlds.{thread_at, with_thread, with_begun, with_status, with_interrupted, with_static, put_value, object_at, class_of_object, is_owner, may_enter, with_entry, entry_cost, with_exit, with_monitors, is_done, waiters_of}
use Rattle.model.specs.ClassInitialisation.{status_of, with_class_status, constant_value, with_constant, with_constants, with_class_begun, Look, IsReady, IsNew, IsHeld, HasFailed, look_by}
use Rattle.model.specs.Frames.{frame_with, entered_by, frame_count, at_call}
use Rattle.model.specs.Sites.{MeaningOf, Site, site_at}
use Rattle.model.specs.Meanings.{meaning_of}
use Rattle.model.specs.Step.{SteppedOf, NotEnabled, WrongKind, Next, PartOf, part, on_to, enabled_if, unpicked, is_over, ended, with_end, end_of, settled, raised, needing, needing_class, entering, pushed, leaving, returned, become, ops_of, done, bytecode_by, bytecode_in, initialiser_event, before, initialisation_event, initial_class, main_frame, run_frame, run_of, begin_event, handler_in, unwound, failed, pending_event, after_wait, relock_event, running_event, going_event, thread_event, with_part, event_of, stepped}
use Rattle.run_laws.specs.object_counts.Bounds.{made, IsCounted, AreObjectsCounted}
use Rattle.run_laws.proofs.object_counts.Counted.{same_count, OutcomeCounted, woken_count}
use Rattle.run_laws.proofs.laws.Operations.{OfMeaning}
use Rattle.run_laws.proofs.object_counts.CountedTable.{Counts, meaning_counts}

module _ {A : Type 0} where
  -- what becomes of so many objects
  abbrev pub Counted : ℕ → SteppedOf (PartOf A) → Type 0
  Counted n NotEnabled = Unit {0}
  Counted n WrongKind = Unit {0}
  Counted n (Next cost p) = length p.world.heap ≡ n + made cost

  enabled_counted : (n : ℕ) (b : Bool) (x : SteppedOf (PartOf A)) → Counted n x → Counted n (enabled_if b x)
  enabled_counted n true x h = h
  enabled_counted n false x h = tt

  either_part : (n : ℕ) (b : Bool) (x y : SteppedOf (PartOf A)) → Counted n x → Counted n y → Counted n (if b then x else y)
  either_part n true x y h g = h
  either_part n false x y h g = g

  -- ---- exceptions, calls and returns

  raised_counted : (C : Carrier A) (files : Program) (t : ℕ) (fault : MachineException) (world : WorldOf A) (stack : StackOf A)
      → Counted (length world.heap) (raised C files t fault world stack)
  raised_counted C files t fault world stack = length_push world.heap (machine_exception C files fault None)

  on_counted : (n : ℕ) (world : WorldOf A) (stack : StackOf A) → length world.heap ≡ n → Counted n (on_to world stack)
  on_counted n world stack e = same_count (length world.heap) n e

  entering_counted : (t : ℕ) (world : WorldOf A) (rest : StackOf A) (frame : FrameOf A) (o : Option ℕ)
      → Counted (length world.heap) (entering t world rest frame o)
  entering_counted t world rest frame None = on_counted (length world.heap) world (Invocation frame ∷ rest) refl
  entering_counted t world rest frame (Some object) =
      enabled_counted (length world.heap) (may_enter world t object) (Next (entry_cost world object) (part (with_entry world t object) (Invocation frame ∷ rest)))
      (same_count (length world.heap) (length world.heap) refl)

  pushed_counted : (C : Carrier A) (files : Program) (frames t : ℕ) (world after : WorldOf A) (stack rest : StackOf A) (frame : FrameOf A)
      → length after.heap ≡ length world.heap → Counted (length world.heap) (pushed C files frames t world after stack rest frame)
  pushed_counted C files frames t world after stack rest frame e =
      either_part (length world.heap) (nat_lt (frame_count stack) frames) (entering t after rest frame frame.entered) (raised C files t StackOverflow world stack)
      (subst (λ n. Counted n (entering t after rest frame frame.entered)) e (entering_counted t after rest frame frame.entered))
      (raised_counted C files t StackOverflow world stack)

  leaving_counted : (C : Carrier A) (files : Program) (n t : ℕ) (o : Option ℕ) (world : WorldOf A) (rest stack : StackOf A) → length world.heap ≡ n
      → Counted n (leaving C files t o world rest stack)
  leaving_counted C files n t None world rest stack e = on_counted n world rest e
  leaving_counted C files n t (Some object) world rest stack e =
      either_part n (is_owner world t object) (on_to (with_exit world t object) rest) (raised C files t IllegalMonitorState world stack)
      (on_counted n (with_exit world t object) rest e)
      (subst (λ n. Counted n (raised C files t IllegalMonitorState world stack)) e (raised_counted C files t IllegalMonitorState world stack))

  -- ---- the end of a thread

  with_end_count : (world : WorldOf A) (t : ℕ) (over : Bool) → length (with_end world t over).heap ≡ length world.heap
  with_end_count world t true =
      let gone = with_thread world t (ended (thread_at world t)) in
      let object = (thread_at world t).object in
      woken_count object Notified (with_monitors gone (monitors.wake_all object gone.monitors)) (waiters_of gone object)
  with_end_count world t false = refl

  end_count : (t : ℕ) (world : WorldOf A) (stack : StackOf A) → length (end_of t world stack).heap ≡ length world.heap
  end_count t world [] = with_end_count world t (is_over (thread_at world t))
  end_count t world (entry ∷ stack) = refl

  settled_counted : (n t : ℕ) (x : SteppedOf (PartOf A)) → Counted n x → Counted n (settled t x)
  settled_counted n t NotEnabled h = tt
  settled_counted n t WrongKind h = tt
  settled_counted n t (Next cost p) h = end_count t p.world p.stack ∙ h

  module _ (C : Carrier A) (files : Program) where
    -- ---- classes

    constant_count : (class : Name) (pool : List Entry) (world : WorldOf A) (field : FieldTree) (o : Option A)
        → length (option_map_or (λ value. with_static
        world (field_member class pool field) (put_value C (field_member class pool field) value)) o world).heap ≡ length world.heap
    constant_count class pool world field None = refl
    constant_count class pool world field (Some value) = refl

    constants_count : (class : Name) (pool : List Entry) (world : WorldOf A) (fields : List FieldTree)
        → length (with_constants C files class pool world fields).heap ≡ length world.heap
    constants_count class pool world [] = refl
    constants_count class pool world (field ∷ fields) =
        constants_count class pool (with_constant C files class pool world field) fields ∙ constant_count class pool world field (constant_value C files pool field)

    begun_count : (t : ℕ) (class : Name) (world : WorldOf A) (o : Option FileTree)
        → length (option_map_or (λ (file : FileTree). with_constants C files class file.pool (with_class_status world class (InProgress t))
        file.fields) o (with_class_status world class (InProgress t))).heap ≡ length world.heap
    begun_count t class world None = refl
    begun_count t class world (Some file) = constants_count class file.pool (with_class_status world class (InProgress t)) file.fields

    needing_counted : (t : ℕ) (class : Name) (look : Look) (world : WorldOf A) (stack : StackOf A) (x : SteppedOf (PartOf A))
        → Counted (length world.heap) x → Counted (length world.heap) (needing C files t class look world stack x)
    needing_counted t class IsReady world stack x h = h
    needing_counted t class IsNew world stack x h =
        on_counted (length world.heap) (with_class_begun C files t class world) (Initialisation class Super ∷ stack) (begun_count t class world (class_of files class))
    needing_counted t class IsHeld world stack x h = tt
    needing_counted t class HasFailed world stack x h = raised_counted C files t NoClassDefFound world stack

    needing_class_counted : (t : ℕ) (class : Option Name) (world : WorldOf A) (stack : StackOf A) (x : SteppedOf (PartOf A))
        → Counted (length world.heap) x → Counted (length world.heap) (needing_class C files t class world stack x)
    needing_class_counted t None world stack x h = h
    needing_class_counted t (Some class) world stack x h = needing_counted t class (look_by t (status_of world class)) world stack x h

    -- ---- an instruction

    become_counted : (frames t : ℕ) (world : WorldOf A) (frame : FrameOf A) (stack : StackOf A) (o : OutcomeOf A)
        → OutcomeCounted (length world.heap) o → Counted (length world.heap) (become C files frames t world frame stack o)
    become_counted frames t world frame stack (Goes cost after slots to) h = h
    become_counted frames t world frame stack (Raises fault) h = raised_counted C files t fault world (Invocation frame ∷ stack)
    become_counted frames t world frame stack (Throws exception) h = same_count (length world.heap) (length world.heap) refl
    become_counted frames t world frame stack Interrupts h = raised_counted C files t InterruptedWait (with_interrupted world t false) (Invocation frame ∷ stack)
    become_counted frames t world frame stack (Calls callee rest) h =
        pushed_counted C files frames t world world (Invocation frame ∷ stack) (Invocation (at_call frame rest) ∷ stack) callee refl
    become_counted frames t world frame stack (Returns after results) h =
        leaving_counted C files (length world.heap) t frame.entered after (returned files results stack) (Invocation frame ∷ stack) h
    become_counted frames t world frame stack (Waits cost after rest) h = h

    bytecode_by_counted : (frames : ℕ) (event : Event) (world : WorldOf A) (frame : FrameOf A) (stack : StackOf A) (max_stack : ℕ)
        (o : Option (MeaningOf A)) → OfMeaning Counts o
        → Counted (length world.heap) (bytecode_by C files frames event world frame stack max_stack o)
    bytecode_by_counted frames event world frame stack max_stack None h = enabled_counted (length world.heap) (event.pick == 0) WrongKind tt
    bytecode_by_counted frames event world frame stack max_stack (Some m) h =
        let slots = frame.place.slots in
        either_part (length world.heap) (C.finds files (types_of world.heap) m.wants max_stack slots) _ (unpicked event WrongKind)
        (enabled_counted (length world.heap) (m.may event world (ops_of C m slots)) _
        (needing_class_counted event.thread m.looks world (Invocation frame ∷ stack) (done C files frames event world frame stack m)
        (become_counted frames event.thread world frame stack (m.does event world slots (ops_of C m slots) (under m.wants slots)) (h event world slots (ops_of C m slots) (under m.wants slots)))))
        (enabled_counted (length world.heap) (event.pick == 0) WrongKind tt)

    meant_counts : (o : Option Site) → OfMeaning Counts (option_and_then (meaning_of C files) o)
    meant_counts None = tt
    meant_counts (Some site) = meaning_counts C files site

    bytecode_counted : (frames : ℕ) (event : Event) (world : WorldOf A) (frame : FrameOf A) (stack : StackOf A) (o : Option Body)
        → Counted (length world.heap) (bytecode_in C files frames event world frame stack o)
    bytecode_counted frames event world frame stack None = enabled_counted (length world.heap) (event.pick == 0) WrongKind tt
    bytecode_counted frames event world frame stack (Some body) =
        bytecode_by_counted frames event world frame stack body.code.max_stack (option_and_then (meaning_of C files) (site_at frame.method body frame.place.offset)) (meant_counts (site_at frame.method body frame.place.offset))

    -- ---- classes that are initialised, and threads that begin

    initialiser_counted : (frames t : ℕ) (m : Member) (world : WorldOf A) (stack : StackOf A) (o : Option Body)
        → Counted (length world.heap) (initialiser_event C files frames t m world stack o)
    initialiser_counted frames t m world stack None = on_counted (length world.heap) world stack refl
    initialiser_counted frames t m world stack (Some body) = pushed_counted C files frames t world world stack stack (frame_with C m [] None body) refl

    initialisation_counted : (frames t : ℕ) (class : Name) (phase : Phase) (world : WorldOf A) (stack : StackOf A)
        → Counted (length world.heap) (initialisation_event C files frames t class phase world stack)
    initialisation_counted frames t class Super world stack =
        needing_class_counted t (before files class) world (Initialisation class Super ∷ stack) _
        (initialiser_counted frames t (initialiser_of class) world (Initialisation class End ∷ stack) (body_of files (initialiser_of class)))
    initialisation_counted frames t class End world stack = same_count (length world.heap) (length world.heap) refl

    main_counted : (frames : ℕ) (world : WorldOf A) (main : Member) (o : Option Body)
        → Counted (length world.heap) (main_frame C files frames world main o)
    main_counted frames world main None = tt
    main_counted frames world main (Some body) =
        pushed_counted C files frames 0 world (with_begun world 0) [] [] (frame_with C main (C.reference arguments_reference ∷ []) (entered_by files main (class_reference files main.class)) body) refl

    run_frame_counted : (frames t : ℕ) (world : WorldOf A) (object : ℕ) (m : Member) (o : Option Body)
        → Counted (length world.heap) (run_frame C files frames t world object m o)
    run_frame_counted frames t world object m None = raised_counted C files t AbstractMethod world []
    run_frame_counted frames t world object m (Some body) =
        pushed_counted C files frames t world (with_begun world t) [] [] (frame_with C m (C.reference object ∷ []) (entered_by files m object) body) refl

    run_counted : (frames t : ℕ) (world : WorldOf A) (object : ℕ) (o : Option Member)
        → Counted (length world.heap) (run_of C files frames t world object o)
    run_counted frames t world object None = raised_counted C files t AbstractMethod world []
    run_counted frames t world object (Some m) = run_frame_counted frames t world object m (body_of files m)

    begin_counted : (frames : ℕ) (world : WorldOf A) (t : ℕ) → Counted (length world.heap) (begin_event C files frames world t)
    begin_counted frames world zero =
        let main = main_of (initial_class files) in
        needing_class_counted 0 (Some (initial_class files)) world [] (main_frame C files frames world main (body_of files main)) (main_counted frames world main (body_of files main))
    begin_counted frames world (suc t) =
        let object = (thread_at world (suc t)).object in
        run_counted frames (suc t) world object (select files (class_of_object (object_at world object)) thread_run)

    -- ---- pending exceptions, and threads that were woken

    unwound_counted : (t exception : ℕ) (world : WorldOf A) (frame : FrameOf A) (stack : StackOf A) (o : Option ExceptionEntry)
        → Counted (length world.heap) (unwound C files t exception world frame stack o)
    unwound_counted t exception world frame stack None = leaving_counted C files (length world.heap) t frame.entered world stack stack refl
    unwound_counted t exception world frame stack (Some entry) = same_count (length world.heap) (length world.heap) refl

    failed_counted : (t exception : ℕ) (b : Bool) (world : WorldOf A) (stack : StackOf A) → Counted (length world.heap) (failed C files t exception b world stack)
    failed_counted t exception true world stack = on_counted (length world.heap) world stack refl
    failed_counted t exception false world stack = length_push world.heap (machine_exception C files ExceptionInInitializer (Some exception))

    pending_counted : (t exception : ℕ) (thrown : Option ReferenceType) (world : WorldOf A) (stack : StackOf A)
        → Counted (length world.heap) (pending_event C files t exception thrown world stack)
    pending_counted t exception thrown world [] = tt
    pending_counted t exception thrown world (Invocation frame ∷ stack) =
        unwound_counted t exception world frame stack (option_and_then (handler_in files frame.place.offset thrown) (body_of files frame.method))
    pending_counted t exception thrown world (Initialisation class phase ∷ stack) =
        failed_counted t exception (is_object_of files (ClassType java_lang_error) thrown) (with_class_status world class Erroneous) stack

    after_wait_counted : (t : ℕ) (cause : WakeCause) (world : WorldOf A) (stack : StackOf A)
        → Counted (length world.heap) (after_wait C files t cause world stack)
    after_wait_counted t Notified world stack = on_counted (length world.heap) world (returned files [] stack) refl
    after_wait_counted t Interrupted world stack = raised_counted C files t InterruptedWait (with_interrupted world t false) stack

    -- ---- an event

    module _ (frames : ℕ) (event : Event) (world : WorldOf A) where
      running_counted : (stack : StackOf A) → Counted (length world.heap) (running_event C files frames event world stack)
      running_counted [] = enabled_counted (length world.heap) (event.pick == 0) (begin_event C files frames world event.thread) (begin_counted frames world event.thread)
      running_counted (Invocation frame ∷ stack) = bytecode_counted frames event world frame stack (body_of files frame.method)
      running_counted (Initialisation class phase ∷ stack) =
          enabled_counted (length world.heap) (event.pick == 0) (initialisation_event C files frames event.thread class phase world stack) (initialisation_counted frames event.thread class phase world stack)

      going_counted : (stack : StackOf A) (pending : Option ℕ)
          → Counted (length world.heap) (going_event C files frames event world stack pending)
      going_counted stack None = running_counted stack
      going_counted stack (Some exception) =
          let thrown = slice_get (types_of world.heap) exception in
          enabled_counted (length world.heap) (event.pick == 0) (pending_event C files event.thread exception thrown world stack) (pending_counted event.thread exception thrown world stack)

      event_counted : (stack : StackOf A) (status : ThreadStatus)
          → Counted (length world.heap) (thread_event C files frames event world stack status)
      event_counted stack Running = going_counted stack (thread_at world event.thread).pending
      event_counted stack (Waiting object count) = tt
      event_counted stack (Relock object count cause) =
          let after = with_status (with_monitors world (monitors.relock object event.thread count world.monitors)) event.thread Running in
          enabled_counted (length world.heap) (event.pick == 0) (relock_event C files event.thread object count cause world stack)
          (enabled_counted (length world.heap) (is_done (monitors.relock object event.thread count world.monitors).answer) (after_wait C files event.thread cause after stack)
          (after_wait_counted event.thread cause after stack))
      event_counted stack (Ended exception) = tt

  -- ---- states

  abbrev pub StateCounted : ℕ → SteppedOf (StateOf A) → Type 0
  StateCounted n NotEnabled = Unit {0}
  StateCounted n WrongKind = Unit {0}
  StateCounted n (Next cost next) = length next.world.heap ≡ n + made cost

  put_counted : (n : ℕ) (state : StateOf A) (t : ℕ) (x : SteppedOf (PartOf A)) → Counted n x → StateCounted n (with_part state t x)
  put_counted n state t NotEnabled h = tt
  put_counted n state t WrongKind h = tt
  put_counted n state t (Next cost p) h = h

  module _ (C : Carrier A) (files : Program) (frames : ℕ) (state : StateOf A) (event : Event) where
    by_stack : (o : Option (StackOf A)) → StateCounted (length state.world.heap) (event_of C files frames state event o)
    by_stack None = tt
    by_stack (Some stack) =
        let status = (thread_at state.world event.thread).status in
        let x = thread_event C files frames event state.world stack status in
        put_counted (length state.world.heap) state event.thread (settled event.thread x)
        (settled_counted (length state.world.heap) event.thread x (event_counted C files frames event state.world stack status))

    pub stepped_counted : StateCounted (length state.world.heap) (stepped C files frames state event)
    stepped_counted = by_stack (slice_get state.stacks event.thread)

  counted : (C : Carrier A) → IsCounted C
  counted C files frames state event cost next e = subst (StateCounted (length state.world.heap)) e (stepped_counted C files frames state event)

pub objects_counted : AreObjectsCounted
objects_counted = record { of_values = counted values; of_words = counted words }
