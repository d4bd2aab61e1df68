-- What each event keeps of owners.
use Rattle.std.proofs.Common.{◌≡◌, ℕ, zero, suc, List, [], ◌∷◌, ◌++◌, length, nat_lt, Bool, true, false, ◌==◌, Option, Some, None, refl, sym, ap, subst, ◌∙◌, arith}
use Rattle.std.specs.Prelude.{slice_get, slice_set, replicate, ◌-◌, if◌then◌else◌}
use Rattle.std.specs.Option.{option_map_or, option_and_then}
use Rattle.std.proofs.lemmas.Bool.Decides.{nat_tests}
use Rattle.model.specs.declared.event.Event.{Event}
use Rattle.model.specs.declared.instr.Instr.{Instr}
use Rattle.model.specs.declared.class_file.ExceptionEntry.{ExceptionEntry}
use Rattle.model.specs.Names.{Name, Member, main_of, thread_run, initialiser_of, java_lang_error}
use Rattle.model.specs.Tree.{Entry, FieldTree, FileTree}
use Rattle.model.specs.Classes.{Program, Body, body_of, class_of}
use Rattle.model.specs.ReferenceTypes.{ReferenceType, ClassType}
use Rattle.model.specs.Types.{is_object_of}
use Rattle.model.specs.Operands.{Carrier, words, values, under}
use Rattle.model.specs.Lookup.{select, field_member}
use Rattle.model.specs.Opening.{arguments_reference, class_reference}
use Rattle.model.specs.State.{Monitor, types_of, InProgress, Erroneous, WakeCause, Notified, Interrupted, ThreadStatus, Running, Waiting, Relock, Ended, FrameOf, Phase, Super, End, Invocation, Initialisation, StackOf, WorldOf, StateOf}
use Rattle.model.specs.Outcomes.{Cost, MachineException, OutcomeOf, Goes, Raises, Throws, Interrupts, Calls, Returns, Waits, NoClassDefFound, StackOverflow, IllegalMonitorState, InterruptedWait, AbstractMethod}
use Rattle.model.specs.Monitors as monitors
use Rattle.model.specs.Worlds.{thread_at, with_thread, with_begun, with_static, put_value, object_at, class_of_object, is_owner, may_enter, with_entry, entry_cost, with_exit, with_interrupted, is_done}
use Rattle.model.specs.ClassInitialisation.{status_of, with_class_status, constant_value, with_constant, with_constants, Look, IsReady, IsNew, IsHeld, HasFailed, look_by}
use Rattle.model.specs.Frames.{frame_with, entered_by, frame_count, at_call}
use Rattle.model.specs.Sites.{MeaningOf, Site, site_at}
use Rattle.model.specs.BuiltInMethods.{object_of}
use Rattle.model.specs.Meanings.{meaning_of}
use Rattle.model.specs.Step.{SteppedOf, NotEnabled, WrongKind, Next, PartOf, part, on_to, enabled_if, unpicked, is_over, ended, with_end, end_of, settled, raised, needing, needing_class, entering, pushed, leaving, returned, become, ops_of, done, bytecode_by, bytecode_in, initialiser_event, before, initialisation_event, initial_class, main_frame, run_frame, run_of, begin_event, handler_in, unwound, failed, pending_event, after_wait, relock_event, running_event, going_event, thread_event, with_part, event_of}
use Rattle.run_laws.proofs.laws.Operations.{OfMeaning}
use Rattle.monitor_laws.specs.owners.Owners.{KeepsOwners, entered_in, monitor_operand, meant_by, meant_with, meant_at, meant_in, meant_running, meant_before, meant, AreOwnersKeptBy, AreOwnersKept}
use Rattle.monitor_laws.proofs.owners.Monitors.{any_keeps, then_keeps, more_keeps, call_changes}
use Rattle.monitor_laws.proofs.owners.Worlds.{OutcomeKept, same_kept, equal_kept, all_leave}
use Rattle.monitor_laws.proofs.owners.Table.{Keeps, meaning_keeps}

longer : (n : ℕ) → nat_lt n (suc n) ≡ true
longer n = grind (arith, nat_tests)

module _ {A : Type 0} where
  -- what an event of a thread leaves, by the monitor that is meant before it and its stack before it
  abbrev pub Kept : Option ℕ → List Monitor → StackOf A → SteppedOf (PartOf A) → Type 0
  Kept b base old NotEnabled = Unit {0}
  Kept b base old WrongKind = Unit {0}
  Kept b base old (Next cost p) = KeepsOwners (meant b old p.stack) base p.world.monitors

  -- the monitor that is meant before it is the one
  meant_kept : (b : Option ℕ) (old new : StackOf A) (base ms : List Monitor) → KeepsOwners b base ms → KeepsOwners (meant b old new) base ms
  meant_kept None old new base ms h = any_keeps (meant None old new) base ms h
  meant_kept (Some object) old new base ms h = h

  enabled_kept : (b : Option ℕ) (base : List Monitor) (old : StackOf A) (test : Bool) (x : SteppedOf (PartOf A)) → Kept b base old x → Kept b base old (enabled_if test x)
  enabled_kept b base old true x h = h
  enabled_kept b base old false x h = tt

  either_part : (b : Option ℕ) (base : List Monitor) (old : StackOf A) (test : Bool) (x y : SteppedOf (PartOf A)) → Kept b base old x → Kept b base old y
      → Kept b base old (if test then x else y)
  either_part b base old true x y h g = h
  either_part b base old false x y h g = g

  -- ---- exceptions, calls and returns

  raised_kept : (C : Carrier A) (files : Program) (b : Option ℕ) (old : StackOf A) (t : ℕ) (fault : MachineException) (world : WorldOf A) (stack : StackOf A)
      → Kept b world.monitors old (raised C files t fault world stack)
  raised_kept C files b old t fault world stack = any_keeps (meant b old stack) world.monitors _ (more_keeps world.monitors)

  entering_kept : (old : StackOf A) (t : ℕ) (world : WorldOf A) (rest : StackOf A) (frame : FrameOf A) (o : Option ℕ) → frame.entered ≡ o
      → nat_lt (length old) (suc (length rest)) ≡ true → Kept None world.monitors old (entering t world rest frame o)
  entering_kept old t world rest frame None e l = same_kept (meant None old (Invocation frame ∷ rest)) world.monitors
  entering_kept old t world rest frame (Some object) e l =
      let is : meant None old (Invocation frame ∷ rest) ≡ Some object = ap (λ b. if b then frame.entered else None) l ∙ e in
      enabled_kept None world.monitors old (may_enter world t object) (Next (entry_cost world object) (part (with_entry world t object) (Invocation frame ∷ rest)))
      (subst (λ m. KeepsOwners m world.monitors (with_entry world t object).monitors) (sym is) (call_changes object (monitors.monitor_enter t) world.monitors))

  pushed_kept : (C : Carrier A) (files : Program) (old : StackOf A) (frames t : ℕ) (world after : WorldOf A) (stack rest : StackOf A) (frame : FrameOf A)
      → Kept None world.monitors old (entering t after rest frame frame.entered) → Kept None world.monitors old (pushed C files frames t world after stack rest frame)
  pushed_kept C files old frames t world after stack rest frame k =
      either_part None world.monitors old (nat_lt (frame_count stack) frames) (entering t after rest frame frame.entered) (raised C files t StackOverflow world stack)
      k (raised_kept C files None old t StackOverflow world stack)

  leaving_kept : (C : Carrier A) (files : Program) (old : StackOf A) (t : ℕ) (o : Option ℕ) (world : WorldOf A) (rest stack : StackOf A) → Kept o world.monitors old (leaving C files t o world rest stack)
  leaving_kept C files old t None world rest stack = same_kept (meant None old rest) world.monitors
  leaving_kept C files old t (Some object) world rest stack =
      either_part (Some object) world.monitors old (is_owner world t object) (on_to (with_exit world t object) rest) (raised C files t IllegalMonitorState world stack)
      (call_changes object (monitors.monitor_exit t) world.monitors) (raised_kept C files (Some object) old t IllegalMonitorState world stack)

  -- ---- the end of a thread

  with_end_kept : (o : Option ℕ) (base : List Monitor) (world : WorldOf A) (t : ℕ) (over : Bool) → KeepsOwners o base world.monitors
      → KeepsOwners o base (with_end world t over).monitors
  with_end_kept o base world t true h =
      then_keeps o base world.monitors _ h (all_leave (with_thread world t (ended (thread_at world t))) (thread_at world t).object)
  with_end_kept o base world t false h = h

  end_kept : (o : Option ℕ) (base : List Monitor) (t : ℕ) (world : WorldOf A) (stack : StackOf A) → KeepsOwners o base world.monitors
      → KeepsOwners o base (end_of t world stack).monitors
  end_kept o base t world [] h = with_end_kept o base world t (is_over (thread_at world t)) h
  end_kept o base t world (entry ∷ stack) h = h

  settled_kept : (b : Option ℕ) (base : List Monitor) (old : StackOf A) (t : ℕ) (x : SteppedOf (PartOf A)) → Kept b base old x → Kept b base old (settled t x)
  settled_kept b base old t NotEnabled h = tt
  settled_kept b base old t WrongKind h = tt
  settled_kept b base old t (Next cost p) h = end_kept (meant b old p.stack) base t p.world p.stack h

  module _ (C : Carrier A) (files : Program) where
    -- ---- classes

    constant_same : (class : Name) (pool : List Entry) (world : WorldOf A) (field : FieldTree) (o : Option A)
        → (option_map_or (λ value. with_static world (field_member class pool field) (put_value C (field_member class pool field) value)) o world).monitors ≡ world.monitors
    constant_same class pool world field None = refl
    constant_same class pool world field (Some value) = refl

    constants_same : (class : Name) (pool : List Entry) (world : WorldOf A) (fields : List FieldTree)
        → (with_constants C files class pool world fields).monitors ≡ world.monitors
    constants_same class pool world [] = refl
    constants_same class pool world (field ∷ fields) =
        constants_same class pool (with_constant C files class pool world field) fields ∙ constant_same class pool world field (constant_value C files pool field)

    class_same : (t : ℕ) (class : Name) (world : WorldOf A) (o : Option FileTree)
        → (option_map_or (λ (file : FileTree). with_constants C files class file.pool (with_class_status world class (InProgress t)) file.fields)
        o (with_class_status world class (InProgress t))).monitors ≡ world.monitors
    class_same t class world None = refl
    class_same t class world (Some file) = constants_same class file.pool (with_class_status world class (InProgress t)) file.fields

    needing_kept : (b : Option ℕ) (old : StackOf A) (t : ℕ) (class : Name) (look : Look) (world : WorldOf A) (stack : StackOf A) (x : SteppedOf (PartOf A))
        → Kept b world.monitors old x → Kept b world.monitors old (needing C files t class look world stack x)
    needing_kept b old t class IsReady world stack x k = k
    needing_kept b old t class IsNew world stack x k =
        equal_kept (meant b old (Initialisation class Super ∷ stack)) world.monitors _ (class_same t class world (class_of files class))
    needing_kept b old t class IsHeld world stack x k = tt
    needing_kept b old t class HasFailed world stack x k = raised_kept C files b old t NoClassDefFound world stack

    needing_class_kept : (b : Option ℕ) (old : StackOf A) (t : ℕ) (class : Option Name) (world : WorldOf A) (stack : StackOf A) (x : SteppedOf (PartOf A))
        → Kept b world.monitors old x → Kept b world.monitors old (needing_class C files t class world stack x)
    needing_class_kept b old t None world stack x k = k
    needing_class_kept b old t (Some class) world stack x k = needing_kept b old t class (look_by t (status_of world class)) world stack x k

    -- ---- an instruction

    become_kept : (frames t : ℕ) (world : WorldOf A) (frame : FrameOf A) (stack : StackOf A) (instr : Instr) (ops : List A) (o : OutcomeOf A)
        → OutcomeKept (monitor_operand C ops instr) (object_of C ops 0) world.monitors o
        → Kept (meant_by C instr frame ops o) world.monitors (Invocation frame ∷ stack) (become C files frames t world frame stack o)
    become_kept frames t world frame stack instr ops (Goes cost after slots to) k =
        meant_kept (monitor_operand C ops instr) (Invocation frame ∷ stack) _ world.monitors after.monitors k
    become_kept frames t world frame stack instr ops (Raises fault) k = raised_kept C files None (Invocation frame ∷ stack) t fault world (Invocation frame ∷ stack)
    become_kept frames t world frame stack instr ops (Throws exception) k =
        same_kept (meant None (Invocation frame ∷ stack) (Invocation frame ∷ stack)) world.monitors
    become_kept frames t world frame stack instr ops Interrupts k =
        raised_kept C files None (Invocation frame ∷ stack) t InterruptedWait (with_interrupted world t false) (Invocation frame ∷ stack)
    become_kept frames t world frame stack instr ops (Calls callee rest) k =
        pushed_kept C files (Invocation frame ∷ stack) frames t world world (Invocation frame ∷ stack) (Invocation (at_call frame rest) ∷ stack) callee
        (entering_kept (Invocation frame ∷ stack) t world (Invocation (at_call frame rest) ∷ stack) callee callee.entered refl (longer (suc (length stack))))
    become_kept frames t world frame stack instr ops (Returns after results) k =
        subst (λ (l : List Monitor). Kept frame.entered l (Invocation frame ∷ stack) (leaving C files t frame.entered after (returned files results stack) (Invocation frame ∷ stack))) k
        (leaving_kept C files (Invocation frame ∷ stack) t frame.entered after (returned files results stack) (Invocation frame ∷ stack))
    become_kept frames t world frame stack instr ops (Waits cost after rest) k = k

    module _ (frames : ℕ) (event : Event) (world : WorldOf A) where
      module _ (frame : FrameOf A) (stack : StackOf A) (max_stack : ℕ) where
        meaning_kept : (site : Site) (o : Option (MeaningOf A)) → OfMeaning (Keeps C site.instr) o
            → Kept (option_map_or (meant_with C event world frame site) o None) world.monitors (Invocation frame ∷ stack)
            (bytecode_by C files frames event world frame stack max_stack o)
        meaning_kept site None k = enabled_kept None world.monitors (Invocation frame ∷ stack) (event.pick == 0) WrongKind tt
        meaning_kept site (Some m) k =
            let slots = frame.place.slots in
            let b = meant_with C event world frame site m in
            let old : StackOf A = Invocation frame ∷ stack in
            let does = m.does event world slots (ops_of C m slots) (under m.wants slots) in
            either_part b world.monitors old (C.finds files (types_of world.heap) m.wants max_stack slots) _ (unpicked event WrongKind)
            (enabled_kept b world.monitors old (m.may event world (ops_of C m slots)) _
            (needing_class_kept b old event.thread m.looks world (Invocation frame ∷ stack) (done C files frames event world frame stack m)
            (become_kept frames event.thread world frame stack site.instr (ops_of C m slots) does (k event world slots (ops_of C m slots) (under m.wants slots)))))
            (enabled_kept b world.monitors old (event.pick == 0) WrongKind tt)

        site_kept : (o : Option Site) → Kept (option_map_or (meant_at C files event world frame) o None) world.monitors (Invocation frame ∷ stack)
            (bytecode_by C files frames event world frame stack max_stack (option_and_then (meaning_of C files) o))
        site_kept None = enabled_kept None world.monitors (Invocation frame ∷ stack) (event.pick == 0) WrongKind tt
        site_kept (Some site) = meaning_kept site (meaning_of C files site) (meaning_keeps C files site)

      bytecode_kept : (frame : FrameOf A) (stack : StackOf A) (o : Option Body)
          → Kept (option_map_or (meant_in C files event world frame) o None) world.monitors (Invocation frame ∷ stack) (bytecode_in C files frames event world frame stack o)
      bytecode_kept frame stack None = enabled_kept None world.monitors (Invocation frame ∷ stack) (event.pick == 0) WrongKind tt
      bytecode_kept frame stack (Some body) = site_kept frame stack body.code.max_stack (site_at frame.method body frame.place.offset)

      -- ---- classes that are initialised, and threads that begin

      initialiser_kept : (old : StackOf A) (t : ℕ) (m : Member) (stack : StackOf A) (o : Option Body) → Kept None world.monitors old (initialiser_event C files frames t m world stack o)
      initialiser_kept old t m stack None = same_kept (meant None old stack) world.monitors
      initialiser_kept old t m stack (Some body) =
          pushed_kept C files old frames t world world stack stack (frame_with C m [] None body)
          (same_kept (meant None old (Invocation (frame_with C m [] None body) ∷ stack)) world.monitors)

      initialisation_kept : (t : ℕ) (class : Name) (phase : Phase) (stack : StackOf A)
          → Kept None world.monitors (Initialisation class phase ∷ stack) (initialisation_event C files frames t class phase world stack)
      initialisation_kept t class Super stack =
          needing_class_kept None (Initialisation class Super ∷ stack) t (before files class) world (Initialisation class Super ∷ stack) _
          (initialiser_kept (Initialisation class Super ∷ stack) t (initialiser_of class) (Initialisation class End ∷ stack) (body_of files (initialiser_of class)))
      initialisation_kept t class End stack = same_kept (meant None (Initialisation class End ∷ stack) stack) world.monitors

      main_kept : (main : Member) (o : Option Body) → Kept None world.monitors [] (main_frame C files frames world main o)
      main_kept main None = tt
      main_kept main (Some body) =
          let frame = frame_with C main (C.reference arguments_reference ∷ []) (entered_by files main (class_reference files main.class)) body in
          pushed_kept C files [] frames 0 world (with_begun world 0) [] [] frame (entering_kept [] 0 (with_begun world 0) [] frame frame.entered refl refl)

      run_frame_kept : (t object : ℕ) (m : Member) (o : Option Body) → Kept None world.monitors [] (run_frame C files frames t world object m o)
      run_frame_kept t object m None = raised_kept C files None [] t AbstractMethod world []
      run_frame_kept t object m (Some body) =
          let frame = frame_with C m (C.reference object ∷ []) (entered_by files m object) body in
          pushed_kept C files [] frames t world (with_begun world t) [] [] frame (entering_kept [] t (with_begun world t) [] frame frame.entered refl refl)

      run_kept : (t object : ℕ) (o : Option Member) → Kept None world.monitors [] (run_of C files frames t world object o)
      run_kept t object None = raised_kept C files None [] t AbstractMethod world []
      run_kept t object (Some m) = run_frame_kept t object m (body_of files m)

      begin_kept : (t : ℕ) → Kept None world.monitors [] (begin_event C files frames world t)
      begin_kept zero =
          let main = main_of (initial_class files) in
          needing_class_kept None [] 0 (Some (initial_class files)) world [] (main_frame C files frames world main (body_of files main)) (main_kept main (body_of files main))
      begin_kept (suc t) =
          let object = (thread_at world (suc t)).object in
          run_kept (suc t) object (select files (class_of_object (object_at world object)) thread_run)

      -- ---- pending exceptions, and threads that were woken

      unwound_kept : (old : StackOf A) (t exception : ℕ) (frame : FrameOf A) (stack : StackOf A) (o : Option ExceptionEntry)
          → Kept frame.entered world.monitors old (unwound C files t exception world frame stack o)
      unwound_kept old t exception frame stack None = leaving_kept C files old t frame.entered world stack stack
      unwound_kept old t exception frame stack (Some entry) = meant_kept frame.entered old _ world.monitors world.monitors (same_kept frame.entered world.monitors)

      failed_kept : (old : StackOf A) (t exception : ℕ) (b : Bool) (class : Name) (stack : StackOf A)
          → Kept None world.monitors old (failed C files t exception b (with_class_status world class Erroneous) stack)
      failed_kept old t exception true class stack = same_kept (meant None old stack) world.monitors
      failed_kept old t exception false class stack = any_keeps (meant None old stack) world.monitors _ (more_keeps world.monitors)

      pending_kept : (t exception : ℕ) (thrown : Option ReferenceType) (stack : StackOf A)
          → Kept (entered_in stack) world.monitors stack (pending_event C files t exception thrown world stack)
      pending_kept t exception thrown [] = tt
      pending_kept t exception thrown (Invocation frame ∷ stack) =
          unwound_kept (Invocation frame ∷ stack) t exception frame stack (option_and_then (handler_in files frame.place.offset thrown) (body_of files frame.method))
      pending_kept t exception thrown (Initialisation class phase ∷ stack) =
          failed_kept (Initialisation class phase ∷ stack) t exception (is_object_of files (ClassType java_lang_error) thrown) class stack

      -- ---- an event

      running_kept : (stack : StackOf A) → Kept (meant_running C files event world None stack) world.monitors stack (running_event C files frames event world stack)
      running_kept [] = enabled_kept None world.monitors [] (event.pick == 0) (begin_event C files frames world event.thread) (begin_kept event.thread)
      running_kept (Invocation frame ∷ stack) = bytecode_kept frame stack (body_of files frame.method)
      running_kept (Initialisation class phase ∷ stack) =
          enabled_kept None world.monitors (Initialisation class phase ∷ stack) (event.pick == 0) (initialisation_event C files frames event.thread class phase world stack)
          (initialisation_kept event.thread class phase stack)

      going_kept : (stack : StackOf A) (pending : Option ℕ) → Kept (meant_running C files event world pending stack) world.monitors stack (going_event C files frames event world stack pending)
      going_kept stack None = running_kept stack
      going_kept stack (Some exception) =
          let thrown = slice_get (types_of world.heap) exception in
          enabled_kept (entered_in stack) world.monitors stack (event.pick == 0) (pending_event C files event.thread exception thrown world stack)
          (pending_kept event.thread exception thrown stack)

      after_wait_kept : (old : StackOf A) (t object : ℕ) (cause : WakeCause) (after : WorldOf A) (stack : StackOf A) → KeepsOwners (Some object) world.monitors after.monitors
          → Kept (Some object) world.monitors old (after_wait C files t cause after stack)
      after_wait_kept old t object Notified after stack h = h
      after_wait_kept old t object Interrupted after stack h = then_keeps (Some object) world.monitors after.monitors _ h (more_keeps after.monitors)

      pub event_kept : (stack : StackOf A) (status : ThreadStatus)
          → Kept (meant_before C files event world stack status) world.monitors stack (thread_event C files frames event world stack status)
      event_kept stack Running = going_kept stack (thread_at world event.thread).pending
      event_kept stack (Waiting object count) = tt
      event_kept stack (Relock object count cause) =
          enabled_kept (Some object) world.monitors stack (event.pick == 0) (relock_event C files event.thread object count cause world stack)
          (enabled_kept (Some object) world.monitors stack (is_done (monitors.relock object event.thread count world.monitors).answer) _
          (after_wait_kept stack event.thread object cause _ stack (call_changes object (monitors.monitor_relock event.thread count) world.monitors)))
      event_kept stack (Ended exception) = tt

  -- ---- states

  set_there : (xs : List (StackOf A)) (t : ℕ) (old s : StackOf A) (ys : List (StackOf A)) → slice_get xs t ≡ Some old → slice_get (slice_set xs t s ++ ys) t ≡ Some s
  set_there [] t old s ys e = absurd cc
  set_there (x ∷ xs) zero old s ys e = refl
  set_there (x ∷ xs) (suc t) old s ys e = set_there xs t old s ys e

  module _ (state : StateOf A) (t : ℕ) (b : Option ℕ) (base : List Monitor) (cost : Cost) (next : StateOf A) (old new : StackOf A)
      (at_old : slice_get state.stacks t ≡ Some old) (at_new : slice_get next.stacks t ≡ Some new) where
    put_kept : (x : SteppedOf (PartOf A)) → Kept b base old x → with_part state t x ≡ Next cost next → KeepsOwners (meant b old new) base next.world.monitors
    put_kept NotEnabled h e = absurd cc
    put_kept WrongKind h e = absurd cc
    put_kept (Next c p) h e =
        let whole : StateOf A = record { world = p.world; stacks = slice_set state.stacks t p.stack ++ replicate (length p.world.threads - length state.stacks) [] } in
        let same : whole ≡ next = cc in
        let there : Some p.stack ≡ Some new = sym (set_there state.stacks t old p.stack (replicate (length p.world.threads - length state.stacks) []) at_old) ∙ ap (λ (n : StateOf A). slice_get n.stacks t) same ∙ at_new in
        let is : p.stack ≡ new = cc in
        subst (λ (n : StateOf A). KeepsOwners (meant b old new) base n.world.monitors) same (subst (λ (s : StackOf A). KeepsOwners (meant b old s) base p.world.monitors) is h)

  pub kept : (C : Carrier A) → AreOwnersKeptBy C
  kept C files frames state event cost next old new e at_old at_new =
      let status = (thread_at state.world event.thread).status in
      let x = thread_event C files frames event state.world old status in
      let stepped_so : with_part state event.thread (settled event.thread x) ≡ Next cost next = ap (event_of C files frames state event) (sym at_old) ∙ e in
      put_kept state event.thread (meant_before C files event state.world old status) state.world.monitors cost next old new at_old at_new (settled event.thread x)
      (settled_kept (meant_before C files event state.world old status) state.world.monitors old event.thread x (event_kept C files frames event state.world old status))
      stepped_so

pub owners_kept : AreOwnersKept
owners_kept = record { of_values = kept values; of_words = kept words }
