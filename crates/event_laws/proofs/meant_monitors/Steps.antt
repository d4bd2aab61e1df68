-- What each event means of monitors before it, where an invocation is new on top after it.
use Rattle.std.proofs.Common.{◌≡◌, ℕ, zero, suc, List, [], ◌∷◌, ◌++◌, length, nat_lt, Bool, true, false, ◌==◌, Option, Some, None, refl, sym, ap, subst, ◌∙◌}
use Rattle.std.specs.Prelude.{slice_get, slice_set, replicate, ◌-◌, if◌then◌else◌}
use Rattle.std.specs.Option.{option_map_or, option_and_then}
use Rattle.model.specs.declared.event.Event.{Event}
use Rattle.model.specs.declared.class_file.ExceptionEntry.{ExceptionEntry}
use Rattle.model.specs.declared.instr.Instr.{Instr}
use Rattle.model.specs.Names.{Name}
use Rattle.model.specs.Classes.{Program, Body, body_of}
use Rattle.model.specs.ReferenceTypes.{ReferenceType}
use Rattle.model.specs.Operands.{Carrier, words, values, under}
use Rattle.model.specs.State.{types_of, WakeCause, Notified, Interrupted, ThreadStatus, Running, Waiting, Relock, Ended, FrameOf, Phase, Super, Invocation, Initialisation, StackOf, WorldOf, StateOf}
use Rattle.model.specs.Outcomes.{Cost, MachineException, OutcomeOf, Goes, Raises, Throws, Interrupts, Calls, Returns, Waits, NoClassDefFound, IllegalMonitorState, InterruptedWait}
use Rattle.model.specs.Monitors as monitors
use Rattle.model.specs.Worlds.{thread_at, with_status, is_owner, with_exit, with_interrupted, with_monitors, is_done}
use Rattle.model.specs.ClassInitialisation.{status_of, Look, IsReady, IsNew, IsHeld, HasFailed, look_by}
use Rattle.model.specs.Frames.{at_call, at_offset}
use Rattle.model.specs.Sites.{MeaningOf, Site, site_at}
use Rattle.model.specs.Meanings.{meaning_of}
use Rattle.model.specs.Step.{SteppedOf, NotEnabled, WrongKind, Next, PartOf, on_to, enabled_if, unpicked, end_of, settled, raised, needing, needing_class, leaving, returned, become, ops_of, done, bytecode_by, bytecode_in, handler_in, unwound, pending_event, after_wait, relock_event, running_event, going_event, thread_event, with_part, event_of}
use Rattle.monitor_laws.specs.owners.Owners.{entered_in, meant_by, meant_with, meant_at, meant_in, meant_running, meant_before, meant}
use Rattle.event_laws.specs.meant_monitors.Meant.{DoEntriesMeanNoneBy, DoEntriesMeanNone}
use Rattle.event_laws.proofs.entered_monitors.Counts.{no_longer, shorter}

nothing_either : (b : Bool) (entered : Option ℕ) (object : ℕ) → entered ≡ None → (if b then entered else None) ≡ Some object → ⊥
nothing_either true entered object n e = let f : None ≡ Some object = sym n ∙ e in cc
nothing_either false entered object n e = let f : None ≡ Some object = e in cc

module _ {A : Type 0} (before : Option ℕ) (own : StackOf A) where
  -- where an invocation is new on top that entered a monitor, none was meant
  abbrev pub MeansNone : StackOf A → Type 0
  MeansNone stack = (object : ℕ) → meant None own stack ≡ Some object → before ≡ None

  abbrev pub Means : SteppedOf (PartOf A) → Type 0
  Means NotEnabled = Unit {0}
  Means WrongKind = Unit {0}
  Means (Next cost p) = MeansNone p.stack

  as_deep : (stack : StackOf A) → nat_lt (length own) (length stack) ≡ false → MeansNone stack
  as_deep stack l object e =
      let none : meant None own stack ≡ None = ap (λ b. if b then entered_in stack else None) l in
      absurd (let f : None ≡ Some object = sym none ∙ e in cc)

  with_class : (class : Name) (phase : Phase) (rest : StackOf A) → MeansNone (Initialisation class phase ∷ rest)
  with_class class phase rest object e = absurd (nothing_either (nat_lt (length own) (length (Initialisation class phase ∷ rest))) None object refl e)

  if_none : (x : SteppedOf (PartOf A)) → before ≡ None → Means x
  if_none NotEnabled n = tt
  if_none WrongKind n = tt
  if_none (Next cost p) n = λ object e. n

  enabled_means : (test : Bool) (x : SteppedOf (PartOf A)) → Means x → Means (enabled_if test x)
  enabled_means true x h = h
  enabled_means false x h = tt

  either_means : (test : Bool) (x y : SteppedOf (PartOf A)) → Means x → Means y → Means (if test then x else y)
  either_means true x y h g = h
  either_means false x y h g = g

  raised_means : (C : Carrier A) (files : Program) (t : ℕ) (fault : MachineException) (world : WorldOf A) (stack : StackOf A) → nat_lt (length own) (length stack) ≡ false → Means (raised C files t fault world stack)
  raised_means C files t fault world stack l = as_deep stack l

  leaving_means : (C : Carrier A) (files : Program) (t : ℕ) (o : Option ℕ) (world : WorldOf A) (rest stack : StackOf A) → nat_lt (length own) (length rest) ≡ false → nat_lt (length own) (length stack) ≡ false
      → Means (leaving C files t o world rest stack)
  leaving_means C files t None world rest stack r s = as_deep rest r
  leaving_means C files t (Some object) world rest stack r s =
      either_means (is_owner world t object) (on_to (with_exit world t object) rest) (raised C files t IllegalMonitorState world stack) (as_deep rest r)
      (raised_means C files t IllegalMonitorState world stack s)

  module _ (C : Carrier A) (files : Program) (t : ℕ) where
    needing_means : (class : Name) (look : Look) (world : WorldOf A) (stack : StackOf A) (x : SteppedOf (PartOf A)) → nat_lt (length own) (length stack) ≡ false → Means x
        → Means (needing C files t class look world stack x)
    needing_means class IsReady world stack x l k = k
    needing_means class IsNew world stack x l k = with_class class Super stack
    needing_means class IsHeld world stack x l k = tt
    needing_means class HasFailed world stack x l k = raised_means C files t NoClassDefFound world stack l

    needing_class_means : (class : Option Name) (world : WorldOf A) (stack : StackOf A) (x : SteppedOf (PartOf A)) → nat_lt (length own) (length stack) ≡ false → Means x
        → Means (needing_class C files t class world stack x)
    needing_class_means None world stack x l k = k
    needing_class_means (Some class) world stack x l k = needing_means class (look_by t (status_of world class)) world stack x l k

module _ {A : Type 0} (C : Carrier A) (files : Program) (frames : ℕ) (event : Event) (world : WorldOf A) where
  abbrev n : ℕ
  n = event.thread

  returned_deep : (k : ℕ) (results : List A) (stack : StackOf A) → nat_lt k (length stack) ≡ false → nat_lt k (length (returned files results stack)) ≡ false
  returned_deep k results [] e = e
  returned_deep k results (Invocation frame ∷ stack) e = e
  returned_deep k results (Initialisation class phase ∷ stack) e = e

  -- ---- an instruction

  become_means : (instr : Instr) (ops : List A) (frame : FrameOf A) (stack : StackOf A) (o : OutcomeOf A)
      → Means (meant_by C instr frame ops o) (Invocation frame ∷ stack) (become C files frames n world frame stack o)
  become_means instr ops frame stack (Goes cost after slots to) =
      as_deep (meant_by C instr frame ops (Goes cost after slots to)) (Invocation frame ∷ stack) (Invocation (at_offset frame to slots) ∷ stack) (no_longer (suc (length stack)))
  become_means instr ops frame stack (Raises fault) = if_none None (Invocation frame ∷ stack) (become C files frames n world frame stack (Raises fault)) refl
  become_means instr ops frame stack (Throws exception) = if_none None (Invocation frame ∷ stack) (become C files frames n world frame stack (Throws exception)) refl
  become_means instr ops frame stack Interrupts = if_none None (Invocation frame ∷ stack) (become C files frames n world frame stack Interrupts) refl
  become_means instr ops frame stack (Calls callee rest) = if_none None (Invocation frame ∷ stack) (become C files frames n world frame stack (Calls callee rest)) refl
  become_means instr ops frame stack (Returns after results) =
      leaving_means frame.entered (Invocation frame ∷ stack) C files n frame.entered after (returned files results stack) (Invocation frame ∷ stack)
      (returned_deep (suc (length stack)) results stack (shorter (length stack))) (no_longer (suc (length stack)))
  become_means instr ops frame stack (Waits cost after rest) =
      as_deep (meant_by C instr frame ops (Waits cost after rest)) (Invocation frame ∷ stack) (Invocation (at_call frame rest) ∷ stack) (no_longer (suc (length stack)))

  module _ (frame : FrameOf A) (stack : StackOf A) where
    abbrev own : StackOf A
    own = Invocation frame ∷ stack

    meaning_means : (max_stack : ℕ) (site : Site) (o : Option (MeaningOf A))
        → Means (option_map_or (meant_with C event world frame site) o None) own (bytecode_by C files frames event world frame stack max_stack o)
    meaning_means max_stack site None = if_none None own (unpicked event WrongKind) refl
    meaning_means max_stack site (Some m) =
        let slots = frame.place.slots in
        let b = meant_with C event world frame site m in
        either_means b own (C.finds files (types_of world.heap) m.wants max_stack slots) _ (unpicked event WrongKind)
        (enabled_means b own (m.may event world (ops_of C m slots)) _
        (needing_class_means b own C files n m.looks world own (done C files frames event world frame stack m) (no_longer (suc (length stack)))
        (become_means site.instr (ops_of C m slots) frame stack (m.does event world slots (ops_of C m slots) (under m.wants slots)))))
        (enabled_means b own (event.pick == 0) WrongKind tt)

    site_means : (max_stack : ℕ) (o : Option Site)
        → Means (option_map_or (meant_at C files event world frame) o None) own (bytecode_by C files frames event world frame stack max_stack (option_and_then (meaning_of C files) o))
    site_means max_stack None = if_none None own (unpicked event WrongKind) refl
    site_means max_stack (Some site) = meaning_means max_stack site (meaning_of C files site)

    bytecode_means : (o : Option Body) → Means (option_map_or (meant_in C files event world frame) o None) own (bytecode_in C files frames event world frame stack o)
    bytecode_means None = if_none None own (unpicked event WrongKind) refl
    bytecode_means (Some body) = site_means body.code.max_stack (site_at frame.method body frame.place.offset)

  -- ---- pending exceptions, and threads that were woken

  unwound_means : (b : Option ℕ) (exception : ℕ) (frame : FrameOf A) (stack : StackOf A) (o : Option ExceptionEntry)
      → Means b (Invocation frame ∷ stack) (unwound C files n exception world frame stack o)
  unwound_means b exception frame stack None =
      leaving_means b (Invocation frame ∷ stack) C files n frame.entered world stack stack (shorter (length stack)) (shorter (length stack))
  unwound_means b exception frame stack (Some entry) =
      as_deep b (Invocation frame ∷ stack)
      (Invocation (at_offset frame entry.handler (record { locals = frame.place.slots.locals; stack = C.reference exception ∷ [] })) ∷ stack) (no_longer (suc (length stack)))

  pending_means : (exception : ℕ) (thrown : Option ReferenceType) (stack : StackOf A) → Means (entered_in stack) stack (pending_event C files n exception thrown world stack)
  pending_means exception thrown [] = tt
  pending_means exception thrown (Invocation frame ∷ stack) =
      unwound_means frame.entered exception frame stack (option_and_then (handler_in files frame.place.offset thrown) (body_of files frame.method))
  pending_means exception thrown (Initialisation class phase ∷ stack) =
      if_none None (Initialisation class phase ∷ stack) (pending_event C files n exception thrown world (Initialisation class phase ∷ stack)) refl

  after_wait_means : (b : Option ℕ) (cause : WakeCause) (after : WorldOf A) (stack : StackOf A) → Means b stack (after_wait C files n cause after stack)
  after_wait_means b Notified after stack = as_deep b stack (returned files [] stack) (returned_deep (length stack) [] stack (no_longer (length stack)))
  after_wait_means b Interrupted after stack = raised_means b stack C files n InterruptedWait (with_interrupted after n false) stack (no_longer (length stack))

  -- ---- an event

  going_means : (stack : StackOf A) (pending : Option ℕ)
      → Means (meant_running C files event world pending stack) stack (going_event C files frames event world stack pending)
  going_means [] None = if_none None [] (running_event C files frames event world []) refl
  going_means (Invocation frame ∷ stack) None = bytecode_means frame stack (body_of files frame.method)
  going_means (Initialisation class phase ∷ stack) None =
      if_none None (Initialisation class phase ∷ stack) (running_event C files frames event world (Initialisation class phase ∷ stack)) refl
  going_means stack (Some exception) =
      let thrown = slice_get (types_of world.heap) exception in
      enabled_means (entered_in stack) stack (event.pick == 0) (pending_event C files n exception thrown world stack) (pending_means exception thrown stack)

  event_means : (stack : StackOf A) (status : ThreadStatus) → Means (meant_before C files event world stack status) stack (thread_event C files frames event world stack status)
  event_means stack Running = going_means stack (thread_at world n).pending
  event_means stack (Waiting object count) = tt
  event_means stack (Relock object count cause) =
      let after = with_status (with_monitors world (monitors.relock object n count world.monitors)) n Running in
      enabled_means (Some object) stack (event.pick == 0) (relock_event C files n object count cause world stack)
      (enabled_means (Some object) stack (is_done (monitors.relock object n count world.monitors).answer) (after_wait C files n cause after stack)
      (after_wait_means (Some object) cause after stack))
  event_means stack (Ended exception) = tt

module _ {A : Type 0} where
  -- ---- states

  set_there : (xs : List (StackOf A)) (t : ℕ) (old s : StackOf A) (ys : List (StackOf A)) → slice_get xs t ≡ Some old → slice_get (slice_set xs t s ++ ys) t ≡ Some s
  set_there [] t old s ys e = absurd cc
  set_there (x ∷ xs) zero old s ys e = refl
  set_there (x ∷ xs) (suc t) old s ys e = set_there xs t old s ys e

  module _ (state : StateOf A) (t : ℕ) (before : Option ℕ) (cost : Cost) (next : StateOf A) (own stack : StackOf A)
      (at_own : slice_get state.stacks t ≡ Some own) (at_new : slice_get next.stacks t ≡ Some stack) where
    put_means : (x : SteppedOf (PartOf A)) → Means before own x → with_part state t (settled t x) ≡ Next cost next → MeansNone before own stack
    put_means NotEnabled h e = absurd cc
    put_means WrongKind h e = absurd cc
    put_means (Next c p) h e =
        let after = end_of t p.world p.stack in
        let more : List (StackOf A) = replicate (length after.threads - length state.stacks) [] in
        let whole : StateOf A = record { world = after; stacks = slice_set state.stacks t p.stack ++ more } in
        let same : whole ≡ next = cc in
        let there : Some p.stack ≡ Some stack = sym (set_there state.stacks t own p.stack more at_own) ∙ ap (λ (s : StateOf A). slice_get s.stacks t) same ∙ at_new in
        let is : p.stack ≡ stack = cc in
        subst (λ (s : StackOf A). MeansNone before own s) is h

  pub none_meant : (C : Carrier A) → DoEntriesMeanNoneBy C
  none_meant C files frames state event cost next own stack e at_own at_new =
      let status = (thread_at state.world event.thread).status in
      let x = thread_event C files frames event state.world own status in
      let stepped_so : with_part state event.thread (settled event.thread x) ≡ Next cost next = ap (event_of C files frames state event) (sym at_own) ∙ e in
      put_means state event.thread (meant_before C files event state.world own status) cost next own stack at_own at_new x (event_means C files frames event state.world own status) stepped_so

pub mean_none : DoEntriesMeanNone
mean_none = record { of_values = none_meant values; of_words = none_meant words }
