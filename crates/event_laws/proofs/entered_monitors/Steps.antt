-- What each event tells of a monitor that an invocation entered.
use Rattle.std.proofs.Common.{◌≡◌, ℕ, zero, suc, List, [], ◌∷◌, ◌++◌, length, nat_lt, Bool, true, false, ◌==◌, Option, Some, None, refl, sym, ap, subst, ◌∙◌}
use Rattle.std.specs.Prelude.{slice_get, slice_set, replicate, ◌-◌, not, ◌&&◌, if◌then◌else◌}
use Rattle.std.specs.Option.{option_and_then}
use Rattle.model.specs.declared.event.Event.{Event}
use Rattle.model.specs.declared.class_file.ExceptionEntry.{ExceptionEntry}
use Rattle.model.specs.Names.{Name, Member, main_of, thread_run, initialiser_of, java_lang_error}
use Rattle.model.specs.Classes.{Program, Body, body_of}
use Rattle.model.specs.ReferenceTypes.{ReferenceType, ClassType}
use Rattle.model.specs.Types.{is_object_of}
use Rattle.model.specs.Operands.{Carrier, words, values, under}
use Rattle.model.specs.Lookup.{select}
use Rattle.model.specs.Opening.{arguments_reference, class_reference}
use Rattle.model.specs.State.{Monitor, types_of, Erroneous, Initialised, WakeCause, Notified, Interrupted, ThreadStatus, Running, Waiting, Relock, Ended, FrameOf, Phase, Super, End, Invocation, Initialisation, StackOf, WorldOf, StateOf}
use Rattle.model.specs.Outcomes.{Cost, MachineException, OutcomeOf, Goes, Raises, Throws, Interrupts, Calls, Returns, Waits, NoClassDefFound, StackOverflow, IllegalMonitorState, InterruptedWait, AbstractMethod, ExceptionInInitializer}
use Rattle.model.specs.Monitors as monitors
use Rattle.model.specs.Monitors.{monitor_at, owns}
use Rattle.model.specs.Worlds.{thread_at, with_begun, with_pending, with_caught, with_status, allocated, object_at, class_of_object, is_owner, may_enter, with_entry, entry_cost, with_exit, with_interrupted, with_monitors, is_done}
use Rattle.model.specs.MachineExceptions.{machine_exception}
use Rattle.model.specs.ClassInitialisation.{status_of, with_class_status, with_class_begun, Look, IsReady, IsNew, IsHeld, HasFailed, look_by}
use Rattle.model.specs.Frames.{frame_with, entered_by, frame_count, at_call, at_offset}
use Rattle.model.specs.Sites.{MeaningOf, site_at}
use Rattle.model.specs.Meanings.{meaning_of}
use Rattle.model.specs.Step.{SteppedOf, NotEnabled, WrongKind, Next, PartOf, part, on_to, enabled_if, unpicked, end_of, settled, raised, needing, needing_class, entering, pushed, leaving, returned, become, ops_of, done, bytecode_by, bytecode_in, initialiser_event, before, initialisation_event, initial_class, main_frame, run_frame, run_of, begin_event, handler_in, unwound, failed, pending_event, after_wait, relock_event, running_event, going_event, thread_event, with_part, event_of}
use Rattle.run_laws.specs.monitor_counts.Counts.{AreMonitorsCounted}
use Rattle.event_laws.specs.entered_monitors.Entries.{TellsOwner, DoEntriesTellBy, DoEntriesTell}
use Rattle.event_laws.proofs.entered_monitors.Counts.{no_longer, shorter, entry_tells}

module _ {A : Type 0} (fat : ℕ → Bool) (t : ℕ) (own : StackOf A) (base : WorldOf A) (counted : AreMonitorsCounted fat base) where
  abbrev pub Tells : SteppedOf (PartOf A) → Type 0
  Tells NotEnabled = Unit {0}
  Tells WrongKind = Unit {0}
  Tells (Next cost p) = TellsOwner t own p.stack base p.world

  -- no invocation is new on top
  as_deep : (stack : StackOf A) (world : WorldOf A) → nat_lt (length own) (length stack) ≡ false → TellsOwner t own stack base world
  as_deep stack world e l = absurd (let f : true ≡ false = sym l ∙ e in cc)

  with_class : (class : Name) (phase : Phase) (rest : StackOf A) (world : WorldOf A) → TellsOwner t own (Initialisation class phase ∷ rest) base world
  with_class class phase rest world l object e = absurd cc

  enabled_tells : (test : Bool) (x : SteppedOf (PartOf A)) → (test ≡ true → Tells x) → Tells (enabled_if test x)
  enabled_tells true x h = h refl
  enabled_tells false x h = tt

  either_tells : (test : Bool) (x y : SteppedOf (PartOf A)) → Tells x → Tells y → Tells (if test then x else y)
  either_tells true x y h g = h
  either_tells false x y h g = g

  raised_tells : (C : Carrier A) (files : Program) (fault : MachineException) (world : WorldOf A) (stack : StackOf A) → nat_lt (length own) (length stack) ≡ false → Tells (raised C files t fault world stack)
  raised_tells C files fault world stack e = as_deep stack (with_pending (allocated world (machine_exception C files fault None)) t (length world.heap)) e

  -- the monitor that a new invocation enters
  entry_told : (world : WorldOf A) (rest : StackOf A) (frame : FrameOf A) (object : ℕ) → frame.entered ≡ Some object → world.monitors ≡ base.monitors
      → may_enter world t object ≡ true → TellsOwner t own (Invocation frame ∷ rest) base (with_entry world t object)
  entry_told world rest frame object e same may l other entered =
      let said : Some object ≡ Some other = sym e ∙ entered in
      let is : object ≡ other = cc in
      let may_so : is_done (monitors.enter object t base.monitors).answer ≡ true = ap (λ (ms : List Monitor). is_done (monitors.enter object t ms).answer) (sym same) ∙ may in
      subst (λ (o : ℕ). owns t (monitor_at base.monitors o).owner ≡ (nat_lt o (length (monitors.enter object t world.monitors).after) && not ((monitor_at (monitors.enter object t world.monitors).after o).count == 1))) is
      (subst (λ (ms : List Monitor). owns t (monitor_at base.monitors object).owner ≡ (nat_lt object (length (monitors.enter object t ms).after) && not ((monitor_at (monitors.enter object t ms).after object).count == 1))) (sym same)
      (entry_tells base.monitors t object (counted.monitors_are object).owner may_so))

  entering_tells : (world : WorldOf A) (rest : StackOf A) (frame : FrameOf A) (o : Option ℕ) → frame.entered ≡ o → world.monitors ≡ base.monitors
      → Tells (entering t world rest frame o)
  entering_tells world rest frame None e same = λ l object entered. absurd (let f : None ≡ Some object = sym e ∙ entered in cc)
  entering_tells world rest frame (Some object) e same =
      enabled_tells (may_enter world t object) (Next (entry_cost world object) (part (with_entry world t object) (Invocation frame ∷ rest)))
      (λ may. entry_told world rest frame object e same may)

  pushed_tells : (C : Carrier A) (files : Program) (frames : ℕ) (world after : WorldOf A) (stack rest : StackOf A) (frame : FrameOf A) → after.monitors ≡ base.monitors
      → nat_lt (length own) (length stack) ≡ false → Tells (pushed C files frames t world after stack rest frame)
  pushed_tells C files frames world after stack rest frame same e =
      either_tells (nat_lt (frame_count stack) frames) (entering t after rest frame frame.entered) (raised C files t StackOverflow world stack)
      (entering_tells after rest frame frame.entered refl same) (raised_tells C files StackOverflow world stack e)

  leaving_tells : (C : Carrier A) (files : Program) (o : Option ℕ) (world : WorldOf A) (rest stack : StackOf A) → nat_lt (length own) (length rest) ≡ false → nat_lt (length own) (length stack) ≡ false
      → Tells (leaving C files t o world rest stack)
  leaving_tells C files None world rest stack r s = as_deep rest world r
  leaving_tells C files (Some object) world rest stack r s =
      either_tells (is_owner world t object) (on_to (with_exit world t object) rest) (raised C files t IllegalMonitorState world stack)
      (as_deep rest (with_exit world t object) r) (raised_tells C files IllegalMonitorState world stack s)

  -- ---- classes

  module _ (C : Carrier A) (files : Program) where
    needing_tells : (class : Name) (look : Look) (world : WorldOf A) (stack : StackOf A) (x : SteppedOf (PartOf A)) → nat_lt (length own) (length stack) ≡ false → Tells x
        → Tells (needing C files t class look world stack x)
    needing_tells class IsReady world stack x e k = k
    needing_tells class IsNew world stack x e k = with_class class Super stack (with_class_begun C files t class world)
    needing_tells class IsHeld world stack x e k = tt
    needing_tells class HasFailed world stack x e k = raised_tells C files NoClassDefFound world stack e

    needing_class_tells : (class : Option Name) (world : WorldOf A) (stack : StackOf A) (x : SteppedOf (PartOf A)) → nat_lt (length own) (length stack) ≡ false → Tells x
        → Tells (needing_class C files t class world stack x)
    needing_class_tells None world stack x e k = k
    needing_class_tells (Some class) world stack x e k = needing_tells class (look_by t (status_of world class)) world stack x e k

module _ {A : Type 0} (C : Carrier A) (files : Program) (frames : ℕ) (world : WorldOf A) (fat : ℕ → Bool) (counted : AreMonitorsCounted fat world) where
  abbrev tells : ℕ → StackOf A → SteppedOf (PartOf A) → Type 0
  tells t own x = Tells fat t own world counted x

  returned_depth : (results : List A) (stack : StackOf A) → length (returned files results stack) ≡ length stack
  returned_depth results [] = refl
  returned_depth results (Invocation frame ∷ stack) = refl
  returned_depth results (Initialisation class phase ∷ stack) = refl

  returned_deep : (n : ℕ) (results : List A) (stack : StackOf A) → nat_lt n (length stack) ≡ false → nat_lt n (length (returned files results stack)) ≡ false
  returned_deep n results stack e = ap (λ k. nat_lt n k) (returned_depth results stack) ∙ e

  -- ---- an instruction

  module _ (event : Event) where
    become_tells : (frame : FrameOf A) (stack : StackOf A) (o : OutcomeOf A) → tells event.thread (Invocation frame ∷ stack) (become C files frames event.thread world frame stack o)
    become_tells frame stack (Goes cost after slots to) =
        as_deep fat event.thread (Invocation frame ∷ stack) world counted (Invocation (at_offset frame to slots) ∷ stack) after (no_longer (suc (length stack)))
    become_tells frame stack (Raises fault) =
        raised_tells fat event.thread (Invocation frame ∷ stack) world counted C files fault world (Invocation frame ∷ stack) (no_longer (suc (length stack)))
    become_tells frame stack (Throws exception) =
        as_deep fat event.thread (Invocation frame ∷ stack) world counted (Invocation frame ∷ stack) (with_pending world event.thread exception) (no_longer (suc (length stack)))
    become_tells frame stack Interrupts =
        raised_tells fat event.thread (Invocation frame ∷ stack) world counted C files InterruptedWait (with_interrupted world event.thread false) (Invocation frame ∷ stack) (no_longer (suc (length stack)))
    become_tells frame stack (Calls callee rest) =
        pushed_tells fat event.thread (Invocation frame ∷ stack) world counted C files frames world world (Invocation frame ∷ stack) (Invocation (at_call frame rest) ∷ stack) callee refl
        (no_longer (suc (length stack)))
    become_tells frame stack (Returns after results) =
        leaving_tells fat event.thread (Invocation frame ∷ stack) world counted C files frame.entered after (returned files results stack) (Invocation frame ∷ stack)
        (returned_deep (suc (length stack)) results stack (shorter (length stack))) (no_longer (suc (length stack)))
    become_tells frame stack (Waits cost after rest) =
        as_deep fat event.thread (Invocation frame ∷ stack) world counted (Invocation (at_call frame rest) ∷ stack) after (no_longer (suc (length stack)))

    bytecode_by_tells : (frame : FrameOf A) (stack : StackOf A) (max_stack : ℕ) (o : Option (MeaningOf A))
        → tells event.thread (Invocation frame ∷ stack) (bytecode_by C files frames event world frame stack max_stack o)
    bytecode_by_tells frame stack max_stack None =
        enabled_tells fat event.thread (Invocation frame ∷ stack) world counted (event.pick == 0) WrongKind (λ e. tt)
    bytecode_by_tells frame stack max_stack (Some m) =
        let own : StackOf A = Invocation frame ∷ stack in
        let slots = frame.place.slots in
        either_tells fat event.thread own world counted (C.finds files (types_of world.heap) m.wants max_stack slots) _ (unpicked event WrongKind)
        (enabled_tells fat event.thread own world counted (m.may event world (ops_of C m slots)) _
        (λ e. needing_class_tells fat event.thread own world counted C files m.looks world own (done C files frames event world frame stack m) (no_longer (suc (length stack)))
        (become_tells frame stack (m.does event world slots (ops_of C m slots) (under m.wants slots)))))
        (enabled_tells fat event.thread own world counted (event.pick == 0) WrongKind (λ e. tt))

    bytecode_tells : (frame : FrameOf A) (stack : StackOf A) (o : Option Body) → tells event.thread (Invocation frame ∷ stack) (bytecode_in C files frames event world frame stack o)
    bytecode_tells frame stack None = enabled_tells fat event.thread (Invocation frame ∷ stack) world counted (event.pick == 0) WrongKind (λ e. tt)
    bytecode_tells frame stack (Some body) =
        bytecode_by_tells frame stack body.code.max_stack (option_and_then (meaning_of C files) (site_at frame.method body frame.place.offset))

  -- ---- classes that are initialised, and threads that begin

  initialiser_tells : (t : ℕ) (own : StackOf A) (m : Member) (stack : StackOf A) (o : Option Body) → nat_lt (length own) (length stack) ≡ false
      → tells t own (initialiser_event C files frames t m world stack o)
  initialiser_tells t own m stack None e = as_deep fat t own world counted stack world e
  initialiser_tells t own m stack (Some body) e =
      pushed_tells fat t own world counted C files frames world world stack stack (frame_with C m [] None body) refl e

  initialisation_tells : (t : ℕ) (class : Name) (phase : Phase) (stack : StackOf A)
      → tells t (Initialisation class phase ∷ stack) (initialisation_event C files frames t class phase world stack)
  initialisation_tells t class Super stack =
      needing_class_tells fat t (Initialisation class Super ∷ stack) world counted C files (before files class) world (Initialisation class Super ∷ stack) _ (no_longer (suc (length stack)))
      (initialiser_tells t (Initialisation class Super ∷ stack) (initialiser_of class) (Initialisation class End ∷ stack) (body_of files (initialiser_of class)) (no_longer (suc (length stack))))
  initialisation_tells t class End stack = as_deep fat t (Initialisation class End ∷ stack) world counted stack (with_class_status world class Initialised) (shorter (length stack))

  main_tells : (main : Member) (o : Option Body) → tells 0 [] (main_frame C files frames world main o)
  main_tells main None = tt
  main_tells main (Some body) =
      pushed_tells fat 0 [] world counted C files frames world (with_begun world 0) [] []
      (frame_with C main (C.reference arguments_reference ∷ []) (entered_by files main (class_reference files main.class)) body) refl refl

  run_frame_tells : (t object : ℕ) (m : Member) (o : Option Body) → tells t [] (run_frame C files frames t world object m o)
  run_frame_tells t object m None = raised_tells fat t [] world counted C files AbstractMethod world [] refl
  run_frame_tells t object m (Some body) =
      pushed_tells fat t [] world counted C files frames world (with_begun world t) [] [] (frame_with C m (C.reference object ∷ []) (entered_by files m object) body) refl refl

  run_tells : (t object : ℕ) (o : Option Member) → tells t [] (run_of C files frames t world object o)
  run_tells t object None = raised_tells fat t [] world counted C files AbstractMethod world [] refl
  run_tells t object (Some m) = run_frame_tells t object m (body_of files m)

  begin_tells : (t : ℕ) → tells t [] (begin_event C files frames world t)
  begin_tells zero =
      let main = main_of (initial_class files) in
      needing_class_tells fat 0 [] world counted C files (Some (initial_class files)) world [] (main_frame C files frames world main (body_of files main)) refl
      (main_tells main (body_of files main))
  begin_tells (suc t) =
      let object = (thread_at world (suc t)).object in
      run_tells (suc t) object (select files (class_of_object (object_at world object)) thread_run)

  -- ---- pending exceptions, and threads that were woken

  unwound_tells : (t exception : ℕ) (frame : FrameOf A) (stack : StackOf A) (o : Option ExceptionEntry)
      → tells t (Invocation frame ∷ stack) (unwound C files t exception world frame stack o)
  unwound_tells t exception frame stack None =
      leaving_tells fat t (Invocation frame ∷ stack) world counted C files frame.entered world stack stack (shorter (length stack)) (shorter (length stack))
  unwound_tells t exception frame stack (Some entry) = as_deep fat t (Invocation frame ∷ stack) world counted
      (Invocation (at_offset frame entry.handler (record { locals = frame.place.slots.locals; stack = C.reference exception ∷ [] })) ∷ stack) (with_caught world t) (no_longer (suc (length stack)))

  failed_tells : (t exception : ℕ) (b : Bool) (class : Name) (phase : Phase) (stack : StackOf A)
      → tells t (Initialisation class phase ∷ stack) (failed C files t exception b (with_class_status world class Erroneous) stack)
  failed_tells t exception true class phase stack = as_deep fat t (Initialisation class phase ∷ stack) world counted stack (with_class_status world class Erroneous) (shorter (length stack))
  failed_tells t exception false class phase stack =
      let erroneous = with_class_status world class Erroneous in
      as_deep fat t (Initialisation class phase ∷ stack) world counted stack (with_pending (allocated erroneous (machine_exception C files ExceptionInInitializer (Some exception))) t (length erroneous.heap)) (shorter (length stack))

  pending_tells : (t exception : ℕ) (thrown : Option ReferenceType) (stack : StackOf A) → tells t stack (pending_event C files t exception thrown world stack)
  pending_tells t exception thrown [] = tt
  pending_tells t exception thrown (Invocation frame ∷ stack) =
      unwound_tells t exception frame stack (option_and_then (handler_in files frame.place.offset thrown) (body_of files frame.method))
  pending_tells t exception thrown (Initialisation class phase ∷ stack) =
      failed_tells t exception (is_object_of files (ClassType java_lang_error) thrown) class phase stack

  after_wait_tells : (t : ℕ) (cause : WakeCause) (after : WorldOf A) (stack : StackOf A) → tells t stack (after_wait C files t cause after stack)
  after_wait_tells t Notified after stack =
      as_deep fat t stack world counted (returned files [] stack) after (returned_deep (length stack) [] stack (no_longer (length stack)))
  after_wait_tells t Interrupted after stack =
      raised_tells fat t stack world counted C files InterruptedWait (with_interrupted after t false) stack (no_longer (length stack))

  -- ---- an event

  module _ (event : Event) where
    abbrev n : ℕ
    n = event.thread

    running_tells : (stack : StackOf A) → tells n stack (running_event C files frames event world stack)
    running_tells [] = enabled_tells fat n [] world counted (event.pick == 0) (begin_event C files frames world n) (λ e. begin_tells n)
    running_tells (Invocation frame ∷ stack) = bytecode_tells event frame stack (body_of files frame.method)
    running_tells (Initialisation class phase ∷ stack) =
        enabled_tells fat n (Initialisation class phase ∷ stack) world counted (event.pick == 0) (initialisation_event C files frames n class phase world stack)
        (λ e. initialisation_tells n class phase stack)

    going_tells : (stack : StackOf A) (pending : Option ℕ) → tells n stack (going_event C files frames event world stack pending)
    going_tells stack None = running_tells stack
    going_tells stack (Some exception) =
        let thrown = slice_get (types_of world.heap) exception in
        enabled_tells fat n stack world counted (event.pick == 0) (pending_event C files n exception thrown world stack) (λ e. pending_tells n exception thrown stack)

    pub event_tells : (stack : StackOf A) (status : ThreadStatus) → tells n stack (thread_event C files frames event world stack status)
    event_tells stack Running = going_tells stack (thread_at world n).pending
    event_tells stack (Waiting object count) = tt
    event_tells stack (Relock object count cause) =
        let after = with_status (with_monitors world (monitors.relock object n count world.monitors)) n Running in
        enabled_tells fat n stack world counted (event.pick == 0) (relock_event C files n object count cause world stack)
        (λ e. enabled_tells fat n stack world counted (is_done (monitors.relock object n count world.monitors).answer) (after_wait C files n cause after stack)
        (λ f. after_wait_tells n cause after stack))
    event_tells stack (Ended exception) = tt

module _ {A : Type 0} where
  -- ---- states

  set_there : (xs : List (StackOf A)) (t : ℕ) (old s : StackOf A) (ys : List (StackOf A)) → slice_get xs t ≡ Some old → slice_get (slice_set xs t s ++ ys) t ≡ Some s
  set_there [] t old s ys e = absurd cc
  set_there (x ∷ xs) zero old s ys e = refl
  set_there (x ∷ xs) (suc t) old s ys e = set_there xs t old s ys e

  module _ (fat : ℕ → Bool) (state : StateOf A) (counted : AreMonitorsCounted fat state.world) (t : ℕ) (cost : Cost) (next : StateOf A) (own stack : StackOf A)
      (at_own : slice_get state.stacks t ≡ Some own) (at_new : slice_get next.stacks t ≡ Some stack) where
    -- where the thread ends its stack is empty
    ended_tells : (world : WorldOf A) (rest : StackOf A) → TellsOwner t own rest state.world world → TellsOwner t own rest state.world (end_of t world rest)
    ended_tells world [] h = λ l object e. absurd cc
    ended_tells world (entry ∷ rest) h = h

    put_tells : (x : SteppedOf (PartOf A)) → Tells fat t own state.world counted x → with_part state t (settled t x) ≡ Next cost next → TellsOwner t own stack state.world next.world
    put_tells NotEnabled h e = absurd cc
    put_tells WrongKind h e = absurd cc
    put_tells (Next c p) h e =
        let after = end_of t p.world p.stack in
        let more : List (StackOf A) = replicate (length after.threads - length state.stacks) [] in
        let whole : StateOf A = record { world = after; stacks = slice_set state.stacks t p.stack ++ more } in
        let same : whole ≡ next = cc in
        let there : Some p.stack ≡ Some stack = sym (set_there state.stacks t own p.stack more at_own) ∙ ap (λ (n : StateOf A). slice_get n.stacks t) same ∙ at_new in
        let is : p.stack ≡ stack = cc in
        subst (λ (n : StateOf A). TellsOwner t own stack state.world n.world) same
        (subst (λ (s : StackOf A). TellsOwner t own s state.world after) is (ended_tells p.world p.stack h))

  pub told : (C : Carrier A) → DoEntriesTellBy C
  told C files frames state event cost next own stack e at_own at_new fat counted =
      let status = (thread_at state.world event.thread).status in
      let x = thread_event C files frames event state.world own status in
      let stepped_so : with_part state event.thread (settled event.thread x) ≡ Next cost next = ap (event_of C files frames state event) (sym at_own) ∙ e in
      put_tells fat state counted event.thread cost next own stack at_own at_new x (event_tells C files frames state.world fat counted event own status) stepped_so

pub entries_tell : DoEntriesTell
entries_tell = record { of_values = told values; of_words = told words }
