-- A monitor that a thread owns is changed by the thread: each event of another one that can be done can be done then, and does the same.
use Rattle.std.proofs.Common.{◌≡◌, ℕ, zero, suc, List, [], ◌∷◌, nat_lt, length, Bool, true, false, ◌==◌, if◌then◌else◌, Option, Some, None, refl, sym, ap, ◌∙◌, subst}
use Rattle.std.specs.Prelude.{slice_get}
use Rattle.std.specs.Option.{option_map_or, option_and_then}
use Rattle.model.specs.declared.event.Event.{Event}
use Rattle.model.specs.declared.class_file.ExceptionEntry.{ExceptionEntry}
use Rattle.model.specs.declared.value.Value.{Value}
use Rattle.model.specs.Classes.{Program, Body, body_of, class_of}
use Rattle.model.specs.ClassInitialisation.{status_of, with_class_status, with_class_begun, constant_value, with_constant, with_constants, Look, IsReady, IsNew, IsHeld, HasFailed, look_by}
use Rattle.model.specs.Frames.{frame_with, entered_by, frame_count, at_call}
use Rattle.model.specs.Lookup.{select, field_member}
use Rattle.model.specs.Meanings.{meaning_of}
use Rattle.model.specs.Monitors as monitors
use Rattle.model.specs.Names.{Name, Member, main_of, thread_run, initialiser_of, java_lang_error}
use Rattle.model.specs.Opening.{opening_count, arguments_reference, class_reference}
use Rattle.model.specs.Operands.{values, under}
use Rattle.model.specs.Outcomes.{Cost, Makes, Enters, MachineException, OutcomeOf, Goes, Raises, Throws, Interrupts, Calls, Returns, Waits, NoClassDefFound, StackOverflow, IllegalMonitorState, InterruptedWait, AbstractMethod, ExceptionInInitializer}
use Rattle.model.specs.ReferenceTypes.{ReferenceType, ClassType}
use Rattle.model.specs.Sites.{MeaningOf, Site, site_at}
use Rattle.model.specs.State.{types_of, InProgress, Initialised, Erroneous, Monitor, WakeCause, Notified, Interrupted, ThreadStatus, Running, Waiting, Relock, Ended, Frame, Phase, Super, End, Invocation, Initialisation, StackOf, World}
use Rattle.model.specs.Step.{SteppedOf, NotEnabled, WrongKind, Next, PartOf, part, on_to, enabled_if, is_over, ended, with_end, end_of, raised_for, raised, needing, needing_class, entering, pushed, leaving, returned, become, ops_of, done, bytecode_by, bytecode_in, initialiser_event, before, initialisation_event, initial_class, main_frame, run_frame, run_of, begin_event, handler_in, unwound, failed, pending_event, after_wait, relock_event, running_event, going_event, thread_event}
use Rattle.model.specs.Tree.{Entry, FieldTree, FileTree}
use Rattle.model.specs.Types.{is_object_of}
use Rattle.model.specs.MachineExceptions.{machine_exception}
use Rattle.model.specs.Worlds.{thread_at, with_thread, with_begun, with_pending, with_status, with_interrupted, with_static, put_value, object_at, class_of_object, is_owner, may_enter, with_entry, entry_cost, with_exit, with_monitors, is_done, all_woken, waiters_of}
use Rattle.run_laws.proofs.laws.Operations.{OfMeaning}
use Rattle.search_laws.proofs.LockOutcomes.{outcome_in, DoesSame, meaning_same}
use Rattle.search_laws.proofs.Locks.{IsChange, with_change, Owned, owned_apart, entered_apart, relocked_apart, owner_same, waiters_same, count_same, answer_same, called_same, woken_all_same, allocated_same, woken_same}
use Rattle.search_laws.proofs.ClassesKept.{all}
use Rattle.search_laws.proofs.Spares.{itself, relock_spares, OutcomeSpares, DoesSpare, meaning_spares}

module _ (t r : ℕ) (change : Monitor → Monitor) (c : IsChange t change) where
  abbrev pub f : World → World
  f = with_change t r change c

  abbrev pub part_in : PartOf Value → PartOf Value
  part_in p = part (f p.world) p.stack

  abbrev moved : SteppedOf (PartOf Value) → SteppedOf (PartOf Value)
  moved NotEnabled = NotEnabled
  moved WrongKind = WrongKind
  moved (Next cost p) = Next cost (part_in p)

  -- what is done in the one world is done in the changed one
  abbrev pub Follows : SteppedOf (PartOf Value) → SteppedOf (PartOf Value) → Type 0
  Follows y x = (cost : Cost) (p : PartOf Value) → x ≡ Next cost p → y ≡ Next cost (part_in p)

  by_same : (y x : SteppedOf (PartOf Value)) → y ≡ moved x → Follows y x
  by_same y x h cost p e = h ∙ ap moved e

  not_done : (y : SteppedOf (PartOf Value)) → Follows y NotEnabled
  not_done y cost p e = absurd cc

  wrong : (y : SteppedOf (PartOf Value)) → Follows y WrongKind
  wrong y cost p e = absurd cc

  enabled : (b other : Bool) (y x : SteppedOf (PartOf Value)) → (b ≡ true → other ≡ true) → (b ≡ true → Follows y x)
      → Follows (enabled_if other y) (enabled_if b x)
  enabled true other y x k h cost p e = ap (λ z. enabled_if z y) (k refl) ∙ h refl cost p e
  enabled false other y x k h cost p e = absurd cc

  either : (b : Bool) (y x z u : SteppedOf (PartOf Value)) → Follows y x → Follows z u → Follows (if b then y else z) (if b then x else u)
  either true y x z u h g = h
  either false y x z u h g = g

  module _ (v : ℕ) (ne : t ≡ v → ⊥) where
    -- ---- exceptions, calls and returns

    raises_for : (files : Program) (fault : MachineException) (cause : Option ℕ) (a : World) → Owned t r change c a → (stack : StackOf Value)
        → Follows (raised_for values files v fault cause (f a) stack) (raised_for values files v fault cause a stack)
    raises_for files fault cause a own stack =
        by_same (raised_for values files v fault cause (f a) stack) (raised_for values files v fault cause a stack)
        (ap (λ k. Next (Makes 0) (part (with_pending k v (length a.heap)) stack)) (allocated_same t r change c v ne a own (machine_exception values files fault cause)))

    raises : (files : Program) (fault : MachineException) (a : World) → Owned t r change c a → (stack : StackOf Value)
        → Follows (raised values files v fault (f a) stack) (raised values files v fault a stack)
    raises files fault a own stack = raises_for files fault None a own stack

    enters : (a : World) → Owned t r change c a → (rest : StackOf Value) (frame : Frame) (o : Option ℕ)
        → Follows (entering v (f a) rest frame o) (entering v a rest frame o)
    enters a own rest frame None = by_same (entering v (f a) rest frame None) (entering v a rest frame None) refl
    enters a own rest frame (Some object) =
        enabled (may_enter a v object) (may_enter (f a) v object) (Next (entry_cost (f a) object) (part (with_entry (f a) v object) (Invocation frame ∷ rest)))
        (Next (entry_cost a object) (part (with_entry a v object) (Invocation frame ∷ rest)))
        (λ h. ap is_done (answer_same t r change c v ne a own object (monitors.monitor_enter v) (entered_apart t r change c v ne a own object h)) ∙ h)
        (λ h.
        let n = entered_apart t r change c v ne a own object h in
        by_same (Next (entry_cost (f a) object) (part (with_entry (f a) v object) (Invocation frame ∷ rest))) (Next (entry_cost a object) (part (with_entry a v object) (Invocation frame ∷ rest)))
        (ap (λ k. Next (Enters object k) (part (with_entry (f a) v object) (Invocation frame ∷ rest))) (count_same t r change c v ne a own object n)
        ∙ ap (λ k. Next (entry_cost a object) (part k (Invocation frame ∷ rest))) (called_same t r change c v ne a own object (monitors.monitor_enter v) n)))

    pushes : (files : Program) (frames : ℕ) (first a : World) → Owned t r change c first → Owned t r change c a → (stack rest : StackOf Value) (frame : Frame)
        → Follows (pushed values files frames v (f first) (f a) stack rest frame) (pushed values files frames v first a stack rest frame)
    pushes files frames first a own own_a stack rest frame =
        either (nat_lt (frame_count stack) frames) (entering v (f a) rest frame frame.entered) (entering v a rest frame frame.entered) (raised values files v StackOverflow (f first) stack) (raised values files v StackOverflow first stack)
        (enters a own_a rest frame frame.entered) (raises files StackOverflow first own stack)

    leaves : (files : Program) (o : Option ℕ) (a : World) → Owned t r change c a → (rest stack : StackOf Value)
        → Follows (leaving values files v o (f a) rest stack) (leaving values files v o a rest stack)
    leaves files None a own rest stack = by_same (leaving values files v None (f a) rest stack) (leaving values files v None a rest stack) refl
    leaves files (Some object) a own rest stack =
        by (is_owner a v object) refl (is_owner (f a) v object) (owner_same t r change c v ne a own object)
      where
        by : (b : Bool) → is_owner a v object ≡ b → (other : Bool) → other ≡ is_owner a v object
            → Follows (if other then on_to (with_exit (f a) v object) rest else raised values files v IllegalMonitorState (f a) stack)
            (if is_owner a v object then on_to (with_exit a v object) rest else raised values files v IllegalMonitorState a stack)
        by true h other e cost p q =
            let n = owned_apart t r change c v ne a own object h in
            let y : SteppedOf (PartOf Value) = raised values files v IllegalMonitorState (f a) stack in
            let x : SteppedOf (PartOf Value) = raised values files v IllegalMonitorState a stack in
            ap (λ k. if k then on_to (with_exit (f a) v object) rest else y) (e ∙ h)
            ∙ (ap (λ k. on_to k rest) (called_same t r change c v ne a own object (monitors.monitor_exit v) n)
            ∙ ap moved (sym (ap (λ k. if k then on_to (with_exit a v object) rest else x) h) ∙ q))
        by false h other e cost p q =
            let y : SteppedOf (PartOf Value) = raised values files v IllegalMonitorState (f a) stack in
            let x : SteppedOf (PartOf Value) = raised values files v IllegalMonitorState a stack in
            ap (λ k. if k then on_to (with_exit (f a) v object) rest else y) (e ∙ h)
            ∙ raises files IllegalMonitorState a own stack cost p (sym (ap (λ k. if k then on_to (with_exit a v object) rest else x) h) ∙ q)

    -- ---- classes

    module _ (files : Program) where
      constant_in_f : (class : Name) (pool : List Entry) (a : World) (field : FieldTree) → with_constant values files class pool (f a) field ≡ f (with_constant values files class pool a field)
      constant_in_f class pool a field = by (constant_value values files pool field)
        where
          by : (o : Option Value)
              → option_map_or (λ value. with_static (f a) (field_member class pool field) (put_value values (field_member class pool field) value)) o (f a)
              ≡ f (option_map_or (λ value. with_static a (field_member class pool field) (put_value values (field_member class pool field) value)) o a)
          by None = refl
          by (Some value) = refl

      constants_in_f : (class : Name) (pool : List Entry) (a : World) (fields : List FieldTree) → with_constants values files class pool (f a) fields ≡ f (with_constants values files class pool a fields)
      constants_in_f class pool a [] = refl
      constants_in_f class pool a (field ∷ fields) =
          ap (λ k. with_constants values files class pool k fields) (constant_in_f class pool a field) ∙ constants_in_f class pool (with_constant values files class pool a field) fields

      begun_in_f : (class : Name) (a : World) → with_class_begun values files v class (f a) ≡ f (with_class_begun values files v class a)
      begun_in_f class a = by (class_of files class)
        where
          by : (o : Option FileTree)
              → option_map_or (λ (file : FileTree). with_constants values files class file.pool (with_class_status (f a) class (InProgress v)) file.fields) o (with_class_status (f a) class (InProgress v))
              ≡ f (option_map_or (λ (file : FileTree). with_constants values files class file.pool (with_class_status a class (InProgress v)) file.fields) o (with_class_status a class (InProgress v)))
          by None = refl
          by (Some file) = constants_in_f class file.pool (with_class_status a class (InProgress v)) file.fields

      needs : (class : Name) (look : Look) (a : World) → Owned t r change c a → (stack : StackOf Value) (y x : SteppedOf (PartOf Value)) → Follows y x
          → Follows (needing values files v class look (f a) stack y) (needing values files v class look a stack x)
      needs class IsReady a own stack y x h = h
      needs class IsNew a own stack y x h =
          by_same (needing values files v class IsNew (f a) stack y) (needing values files v class IsNew a stack x) (ap (λ k. on_to k (Initialisation class Super ∷ stack)) (begun_in_f class a))
      needs class IsHeld a own stack y x h = not_done (needing values files v class IsHeld (f a) stack y)
      needs class HasFailed a own stack y x h = raises files NoClassDefFound a own stack

      needs_class : (class : Option Name) (a : World) → Owned t r change c a → (stack : StackOf Value) (y x : SteppedOf (PartOf Value)) → Follows y x
          → Follows (needing_class values files v class (f a) stack y) (needing_class values files v class a stack x)
      needs_class None a own stack y x h = h
      needs_class (Some class) a own stack y x h = needs class (look_by v (status_of a class)) a own stack y x h

      -- ---- an instruction

      module _ (frames : ℕ) (w : World) (own : Owned t r change c w) where
        becomes : (frame : Frame) (stack : StackOf Value) (o : OutcomeOf Value) → OutcomeSpares (opening_count files) all v w o
            → Follows (become values files frames v (f w) frame stack (outcome_in t r change c o)) (become values files frames v w frame stack o)
        becomes frame stack (Goes cost after slots to) s = by_same (become values files frames v (f w) frame stack (Goes cost (f after) slots to)) (become values files frames v w frame stack (Goes cost after slots to)) refl
        becomes frame stack (Raises fault) s = raises files fault w own (Invocation frame ∷ stack)
        becomes frame stack (Throws exception) s =
            by_same (become values files frames v (f w) frame stack (Throws exception)) (become values files frames v w frame stack (Throws exception)) refl
        becomes frame stack Interrupts s = raises files InterruptedWait (with_interrupted w v false) own (Invocation frame ∷ stack)
        becomes frame stack (Calls callee rest) s = pushes files frames w w own own (Invocation frame ∷ stack) (Invocation (at_call frame rest) ∷ stack) callee
        becomes frame stack (Returns after results) s =
            leaves files frame.entered after (s.monitors t r ne own) (returned files results stack) (Invocation frame ∷ stack)
        becomes frame stack (Waits cost after rest) s = by_same (become values files frames v (f w) frame stack (Waits cost (f after) rest)) (become values files frames v w frame stack (Waits cost after rest)) refl

        -- ---- classes that are initialised, and threads that begin

        initialises : (class : Name) (phase : Phase) (stack : StackOf Value)
            → Follows (initialisation_event values files frames v class phase (f w) stack) (initialisation_event values files frames v class phase w stack)
        initialises class Super stack =
            needs_class (before files class) w own (Initialisation class Super ∷ stack) _ _ (by (body_of files (initialiser_of class)))
          where
            by : (o : Option Body)
                → Follows (initialiser_event values files frames v (initialiser_of class) (f w) (Initialisation class End ∷ stack) o) (initialiser_event values files frames v (initialiser_of class) w (Initialisation class End ∷ stack) o)
            by None = by_same (on_to (f w) (Initialisation class End ∷ stack)) (on_to w (Initialisation class End ∷ stack)) refl
            by (Some body) =
                pushes files frames w w own own (Initialisation class End ∷ stack) (Initialisation class End ∷ stack) (frame_with values (initialiser_of class) [] None body)
        initialises class End stack =
            by_same (on_to (with_class_status (f w) class Initialised) stack) (on_to (with_class_status w class Initialised) stack) refl

        runs_it : (object : ℕ) (o : Option Member) → Follows (run_of values files frames v (f w) object o) (run_of values files frames v w object o)
        runs_it object None = raises files AbstractMethod w own []
        runs_it object (Some m) = by (body_of files m)
          where
            by : (o : Option Body) → Follows (run_frame values files frames v (f w) object m o) (run_frame values files frames v w object m o)
            by None = raises files AbstractMethod w own []
            by (Some body) = pushes files frames w (with_begun w v) own own [] [] (frame_with values m (values.reference object ∷ []) (entered_by files m object) body)

        -- ---- pending exceptions, and threads that were woken

        unwinds : (exception : ℕ) (frame : Frame) (stack : StackOf Value) (o : Option ExceptionEntry)
            → Follows (unwound values files v exception (f w) frame stack o) (unwound values files v exception w frame stack o)
        unwinds exception frame stack None = leaves files frame.entered w own stack stack
        unwinds exception frame stack (Some entry) = by_same (unwound values files v exception (f w) frame stack (Some entry)) (unwound values files v exception w frame stack (Some entry)) refl

        fails : (exception : ℕ) (b : Bool) (class : Name) (stack : StackOf Value)
            → Follows (failed values files v exception b (with_class_status (f w) class Erroneous) stack) (failed values files v exception b (with_class_status w class Erroneous) stack)
        fails exception true class stack = by_same (failed values files v exception true (with_class_status (f w) class Erroneous) stack) (failed values files v exception true (with_class_status w class Erroneous) stack) refl
        fails exception false class stack = raises_for files ExceptionInInitializer (Some exception) (with_class_status w class Erroneous) own stack

        pends : (exception : ℕ) (thrown : Option ReferenceType) (stack : StackOf Value)
            → Follows (pending_event values files v exception thrown (f w) stack) (pending_event values files v exception thrown w stack)
        pends exception thrown [] = not_done (pending_event values files v exception thrown (f w) [])
        pends exception thrown (Invocation frame ∷ stack) =
            unwinds exception frame stack (option_and_then (handler_in files frame.place.offset thrown) (body_of files frame.method))
        pends exception thrown (Initialisation class phase ∷ stack) = fails exception (is_object_of files (ClassType java_lang_error) thrown) class stack

        returns : (cause : WakeCause) (a : World) → Owned t r change c a → (stack : StackOf Value)
            → Follows (after_wait values files v cause (f a) stack) (after_wait values files v cause a stack)
        returns Notified a own_a stack = by_same (after_wait values files v Notified (f a) stack) (after_wait values files v Notified a stack) refl
        returns Interrupted a own_a stack = raises files InterruptedWait (with_interrupted a v false) own_a stack

        relocks : (object count : ℕ) (cause : WakeCause) (stack : StackOf Value)
            → Follows (relock_event values files v object count cause (f w) stack) (relock_event values files v object count cause w stack)
        relocks object count cause stack =
            enabled (is_done (monitors.relock object v count w.monitors).answer) (is_done (monitors.relock object v count (f w).monitors).answer)
            (after_wait values files v cause (with_status (with_monitors (f w) (monitors.relock object v count (f w).monitors)) v Running) stack)
            (after_wait values files v cause (with_status (with_monitors w (monitors.relock object v count w.monitors)) v Running) stack)
            (λ h. ap is_done (answer_same t r change c v ne w own object (monitors.monitor_relock v count) (relocked_apart t r change c v ne w own object count h)) ∙ h)
            (λ h.
            let n = relocked_apart t r change c v ne w own object count h in
            let a = with_status (with_monitors w (monitors.relock object v count w.monitors)) v Running in
            let own_a = (relock_spares (opening_count files) all v w w object count (itself (opening_count files) all v w)).monitors t r ne own in
            subst (λ k. Follows (after_wait values files v cause (with_status k v Running) stack) (after_wait values files v cause a stack))
            (sym (called_same t r change c v ne w own object (monitors.monitor_relock v count) n)) (returns cause a own_a stack))

  -- ---- an event

  module _ (files : Program) (frames : ℕ) (event : Event) (ne : t ≡ event.thread → ⊥) (w : World) (own : Owned t r change c w) where
    abbrev v : ℕ
    v = event.thread

    bytecode_follows : (frame : Frame) (stack : StackOf Value) (max_stack : ℕ) (o : Option (MeaningOf Value))
        → OfMeaning (DoesSame t r change c event ne w own) o → OfMeaning (DoesSpare (opening_count files) all v w event refl) o
        → Follows (bytecode_by values files frames event (f w) frame stack max_stack o) (bytecode_by values files frames event w frame stack max_stack o)
    bytecode_follows frame stack max_stack None k s =
        enabled (event.pick == 0) (event.pick == 0) WrongKind WrongKind (λ h. h) (λ h. wrong WrongKind)
    bytecode_follows frame stack max_stack (Some m) k s =
        let slots = frame.place.slots in
        let ops = ops_of values m slots in
        let rest = under m.wants slots in
        let whole : StackOf Value = Invocation frame ∷ stack in
        either (values.finds files (types_of w.heap) m.wants max_stack slots) _ _ _ _
        (enabled (m.may event w ops) (m.may event (f w) ops)
        (needing_class values files v m.looks (f w) whole (done values files frames event (f w) frame stack m))
        (needing_class values files v m.looks w whole (done values files frames event w frame stack m))
        (λ h. (k slots ops rest h).may)
        (λ h. needs_class v ne files m.looks w own whole (done values files frames event (f w) frame stack m) (done values files frames event w frame stack m)
        (subst (λ o. Follows (become values files frames v (f w) frame stack o) (done values files frames event w frame stack m)) (sym (k slots ops rest h).does)
        (becomes v ne files frames w own frame stack (m.does event w slots ops rest) (s slots ops rest)))))
        (enabled (event.pick == 0) (event.pick == 0) WrongKind WrongKind (λ h. h) (λ h. wrong WrongKind))

    same_of : (o : Option Site) → OfMeaning (DoesSame t r change c event ne w own) (option_and_then (meaning_of values files) o)
    same_of None = tt
    same_of (Some site) = meaning_same t r change c event ne w own files site

    spares_of : (o : Option Site) → OfMeaning (DoesSpare (opening_count files) all v w event refl) (option_and_then (meaning_of values files) o)
    spares_of None = tt
    spares_of (Some site) = meaning_spares (opening_count files) all v w event refl files refl site (λ variables q. refl)

    body_follows : (frame : Frame) (stack : StackOf Value) (o : Option Body)
        → Follows (bytecode_in values files frames event (f w) frame stack o) (bytecode_in values files frames event w frame stack o)
    body_follows frame stack None = enabled (event.pick == 0) (event.pick == 0) WrongKind WrongKind (λ h. h) (λ h. wrong WrongKind)
    body_follows frame stack (Some body) =
        let o = site_at frame.method body frame.place.offset in
        bytecode_follows frame stack body.code.max_stack (option_and_then (meaning_of values files) o) (same_of o) (spares_of o)

    main_follows : (n : t ≡ 0 → ⊥) (main : Member) (o : Option Body) → Follows (main_frame values files frames (f w) main o) (main_frame values files frames w main o)
    main_follows n main None = wrong WrongKind
    main_follows n main (Some body) =
        pushes 0 n files frames w (with_begun w 0) own own [] [] (frame_with values main (values.reference arguments_reference ∷ []) (entered_by files main (class_reference files main.class)) body)

    begins : (u : ℕ) → (t ≡ u → ⊥) → Follows (begin_event values files frames (f w) u) (begin_event values files frames w u)
    begins zero n =
        let main = main_of (initial_class files) in
        needs_class 0 n files (Some (initial_class files)) w own [] (main_frame values files frames (f w) main (body_of files main)) (main_frame values files frames w main (body_of files main)) (main_follows n main (body_of files main))
    begins (suc u) n =
        let object = (thread_at w (suc u)).object in
        runs_it (suc u) n files frames w own object (select files (class_of_object (object_at w object)) thread_run)

    stack_follows : (stack : StackOf Value) → Follows (running_event values files frames event (f w) stack) (running_event values files frames event w stack)
    stack_follows [] =
        enabled (event.pick == 0) (event.pick == 0) (begin_event values files frames (f w) v) (begin_event values files frames w v) (λ h. h) (λ h. begins v ne)
    stack_follows (Invocation frame ∷ stack) = body_follows frame stack (body_of files frame.method)
    stack_follows (Initialisation class phase ∷ stack) =
        enabled (event.pick == 0) (event.pick == 0) (initialisation_event values files frames v class phase (f w) stack) (initialisation_event values files frames v class phase w stack) (λ h. h)
        (λ h. initialises v ne files frames w own class phase stack)

    going_follows : (stack : StackOf Value) (o : Option ℕ) → Follows (going_event values files frames event (f w) stack o) (going_event values files frames event w stack o)
    going_follows stack None = stack_follows stack
    going_follows stack (Some exception) =
        let thrown = slice_get (types_of w.heap) exception in
        enabled (event.pick == 0) (event.pick == 0) (pending_event values files v exception thrown (f w) stack) (pending_event values files v exception thrown w stack) (λ h. h)
        (λ h. pends v ne files frames w own exception thrown stack)

    pub event_follows : (stack : StackOf Value) (status : ThreadStatus)
        → Follows (thread_event values files frames event (f w) stack status) (thread_event values files frames event w stack status)
    event_follows stack Running = going_follows stack (thread_at w v).pending
    event_follows stack (Waiting object count) = not_done NotEnabled
    event_follows stack (Relock object count cause) =
        enabled (event.pick == 0) (event.pick == 0) (relock_event values files v object count cause (f w) stack) (relock_event values files v object count cause w stack) (λ h. h)
        (λ h. relocks v ne files frames w own object count cause stack)
    event_follows stack (Ended exception) = not_done NotEnabled

  -- ---- the end of a thread

  pub end_same : (v : ℕ) (ne : t ≡ v → ⊥) (w : World) → Owned t r change c w → (stack : StackOf Value) → end_of v (f w) stack ≡ f (end_of v w stack)
  end_same v ne w own [] = by (is_over (thread_at w v))
    where
      by : (b : Bool) → with_end (f w) v b ≡ f (with_end w v b)
      by false = refl
      by true =
          let gone = with_thread w v (ended (thread_at w v)) in
          let object = (thread_at w v).object in
          ap (λ k. all_woken object Notified k (waiters_of (f gone) object)) (woken_all_same t r change c v ne gone own object)
          ∙ (ap (all_woken object Notified (f (with_monitors gone (monitors.wake_all object gone.monitors)))) (waiters_same t r change c v ne gone own object)
          ∙ woken_same t r change c object Notified (waiters_of gone object) (with_monitors gone (monitors.wake_all object gone.monitors)))
  end_same v ne w own (entry ∷ stack) = refl
