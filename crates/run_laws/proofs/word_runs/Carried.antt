-- A step at the words of a well-typed state is the step at the state.
use Rattle.std.proofs.Common.{◌≡◌, ℕ, zero, suc, ◌-◌, List, [], ◌∷◌, ◌++◌, map, length, take, drop, replicate, Bool, true, false, ◌==◌, if◌then◌else◌, Option, Some, None, option_map, refl, sym, ap, ◌∙◌, subst}
use Rattle.std.specs.Prelude.{slice_get, slice_index_or, slice_set}
use Rattle.std.specs.Option.{option_and_then}
use Rattle.std.proofs.lemmas.List.{map-append, length-map}
use Rattle.std.proofs.lemmas.Option.{slice_get-map}
use Rattle.model.specs.declared.event.Event.{Event}
use Rattle.model.specs.declared.value.Value.{Value}
use Rattle.model.specs.declared.value.Value.TheVariants as value
use Rattle.model.specs.Names.{Name, Member, main_of, initialiser_of, thread_run, java_lang_error}
use Rattle.model.specs.Classes.{Program, Body, body_of}
use Rattle.model.specs.Lookup.{select}
use Rattle.model.specs.ReferenceTypes.{ReferenceType, ClassType}
use Rattle.model.specs.Types.{value_meets, is_object_of}
use Rattle.model.specs.Operands.{Slots, Wants, words, values, over_values, over_words, is_ready, operands, under, word_of}
use Rattle.model.specs.State.{Erroneous, types_of, Frame, Invocation, Initialisation, StackOf, Phase, Super, End, Thread, ThreadStatus, Running, Waiting, Relock, Ended, World, State, WakeCause, Notified}
use Rattle.model.specs.Outcomes.{AbstractMethod}
use Rattle.model.specs.Opening.{arguments_reference, class_reference}
use Rattle.model.specs.Worlds.{thread_at, object_at, class_of_object, with_begun, with_status, with_monitors, is_done, with_thread, waiters_of}
use Rattle.model.specs.Monitors as monitors
use Rattle.model.specs.ClassInitialisation.{with_class_status}
use Rattle.model.specs.Frames.{frame_with, entered_by}
use Rattle.model.specs.Sites.{MeaningOf, Site, site_at}
use Rattle.model.specs.Meanings.{meaning_of}
use Rattle.model.specs.Step.{SteppedOf, NotEnabled, WrongKind, Next, PartOf, part, enabled_if, unpicked, is_over, ended, with_end, end_of, settled, needing_class, pushed, become, ops_of, done, bytecode_by, bytecode_in, before, initialiser_event, initialisation_event, initial_class, main_frame, run_frame, run_of, begin_event, handler_in, pending_event, after_wait, relock_event, running_event, going_event, thread_event, with_part, event_of}
use Rattle.model.specs.WrongKind.{finds_operands, finds_in}
use Rattle.model.specs.WellTyped.{IsRunning, IsStackTyped}
use Rattle.model.specs.Words.{map_frame, map_slots, words_of}
use Rattle.run_laws.specs.laws.Steps.{Rooted}
use Rattle.run_laws.specs.word_runs.Words.{map_part, map_stepped, IsCarried}
use Rattle.run_laws.proofs.laws.Lists.{Pairwise}
use Rattle.run_laws.proofs.laws.Rows.{ready_popped}
use Rattle.run_laws.proofs.laws.Progress.{ready_finds}
use Rattle.run_laws.proofs.laws.Answered.{thread_of_stack}
use Rattle.run_laws.proofs.laws.WordLists.{map_set, map_copies, operands_words, under_words}
use Rattle.run_laws.proofs.word_runs.WordWorlds.{KeepsTexts, world_words, types_words, object_at_words, class_words, all_words}
use Rattle.run_laws.proofs.word_runs.WordMeanings.{Kinded, Same}
use Rattle.run_laws.proofs.word_runs.WordTable.{SameIf, meaning_same}
use Rattle.run_laws.proofs.word_runs.WordEvents.{stack_words, Carries, enabled_words, raised_words, failed_words, needing_class_words, pushed_words, become_words, initialiser_words, unwound_words, after_wait_words}
use Rattle.run_laws.proofs.typed_runs.Texts.{texts_kept}
use Rattle.run_laws.proofs.word_runs.WordCalls.{frame_words}

after_reads : {A B : Type 0} (f : A → B) (rs : List A) (ys : List B) → drop (length rs) (map f rs ++ ys) ≡ ys
after_reads f [] ys = refl
after_reads f (r ∷ rs) ys = after_reads f rs ys

-- operands that are found are as wanted
kinded : (files : Program) (os : List ReferenceType) (w : Wants) (max : ℕ) (s : Slots Value)
    → is_ready (value_meets files os) over_values w max s ≡ true → Kinded files os w (operands over_values w s)
kinded files os w max s e =
    subst (λ l. Pairwise (value_meets files os) w.pops l) (sym (after_reads (λ r. slice_index_or s.locals r.0 value.Unset) w.reads (take (length w.pops) s.stack)))
    (ready_popped (value_meets files os) over_values w max s e)

module _ (files : Program) where
  -- ---- an instruction

  module _ (frames : ℕ) (event : Event) (world : World) (texts : KeepsTexts world) (frame : Frame) (stack : StackOf Value) where
    module _ (v : MeaningOf Value) (w : MeaningOf ℕ) (same : Same files v w) (q : Kinded files (types_of world.heap) v.wants (ops_of values v frame.place.slots)) where
      ops_same : ops_of words w (map_slots word_of frame.place.slots) ≡ map word_of (ops_of values v frame.place.slots)
      ops_same = ap (λ x. operands over_words x (map_slots word_of frame.place.slots)) same.wants ∙ operands_words v.wants frame.place.slots

      under_same : under w.wants (map_slots word_of frame.place.slots) ≡ map word_of (under v.wants frame.place.slots)
      under_same = ap (λ x. under x (map_slots word_of frame.place.slots)) same.wants ∙ under_words v.wants frame.place.slots

      done_words : Carries (done words files frames event (world_words world) (map_frame word_of frame) (stack_words stack) w)
          (done values files frames event world frame stack v)
      done_words =
          ap (become words files frames event.thread (world_words world) (map_frame word_of frame) (stack_words stack))
          (ap (λ o. w.does event (world_words world) (map_slots word_of frame.place.slots) o (under w.wants (map_slots word_of frame.place.slots))) ops_same
          ∙ (ap (λ r. w.does event (world_words world) (map_slots word_of frame.place.slots) (map word_of (ops_of values v frame.place.slots)) r) under_same
          ∙ same.does event world frame.place.slots (under v.wants frame.place.slots) q texts))
          ∙ become_words files frames event.thread world frame stack (v.does event world frame.place.slots (ops_of values v frame.place.slots) (under v.wants frame.place.slots))

      allowed_words : w.may event (world_words world) (ops_of words w (map_slots word_of frame.place.slots))
          ≡ v.may event world (ops_of values v frame.place.slots)
      allowed_words = ap (λ o. w.may event (world_words world) o) ops_same ∙ same.may event world (ops_of values v frame.place.slots) q

      needed_words : Carries (needing_class words files event.thread w.looks (world_words world) (stack_words (Invocation frame
          ∷ stack)) (done words files frames event (world_words world) (map_frame word_of frame) (stack_words stack) w))
          (needing_class values files event.thread v.looks world (Invocation frame
          ∷ stack) (done values files frames event world frame stack v))
      needed_words =
          ap (λ l. needing_class words files event.thread l (world_words world) (stack_words (Invocation frame ∷ stack)) (done words files frames event (world_words world) (map_frame word_of frame) (stack_words stack) w)) same.looks
          ∙ needing_class_words files event.thread v.looks world (Invocation frame ∷ stack) _ (done values files frames event world frame stack v) done_words

      event_words : Carries (enabled_if (w.may event (world_words world) (ops_of words w (map_slots word_of frame.place.slots)))
          (needing_class words files event.thread w.looks (world_words world) (stack_words (Invocation frame
          ∷ stack)) (done words files frames event (world_words world) (map_frame word_of frame) (stack_words stack) w)))
          (enabled_if (v.may event world (ops_of values v frame.place.slots)) (needing_class values files event.thread v.looks world (Invocation frame ∷ stack) (done values files frames event world frame stack v)))
      event_words =
          ap (λ b. enabled_if b (needing_class words files event.thread w.looks (world_words world) (stack_words (Invocation frame ∷ stack)) (done words files frames event (world_words world) (map_frame word_of frame) (stack_words stack) w))) allowed_words
          ∙ enabled_words (v.may event world (ops_of values v frame.place.slots)) _ (needing_class values files event.thread v.looks world (Invocation frame ∷ stack) (done values files frames event world frame stack v)) needed_words

    wrong_words : Carries (unpicked event WrongKind) (unpicked event WrongKind)
    wrong_words = enabled_words (event.pick == 0) WrongKind WrongKind refl

    bytecode_by_words : (max : ℕ) (v : Option (MeaningOf Value)) (w : Option (MeaningOf ℕ)) → SameIf files v w
        → finds_operands files (types_of world.heap) max frame v ≡ true
        → Carries (bytecode_by words files frames event (world_words world) (map_frame word_of frame) (stack_words stack) max w)
        (bytecode_by values files frames event world frame stack max v)
    bytecode_by_words max None None s e = wrong_words
    bytecode_by_words max None (Some w) s e = absurd s
    bytecode_by_words max (Some v) None s e = absurd s
    bytecode_by_words max (Some v) (Some w) s e =
        event_words v w s (kinded files (types_of world.heap) v.wants max frame.place.slots e)
        ∙ ap (λ b. map_stepped (map_part word_of) (if b then enabled_if (v.may event world (ops_of values v frame.place.slots)) (needing_class values files event.thread v.looks world (Invocation frame ∷ stack) (done values files frames event world frame stack v)) else unpicked event WrongKind)) (sym e)

    bytecode_in_words : (o : Option Body) → finds_in files (types_of world.heap) frame o ≡ true
        → Carries (bytecode_in words files frames event (world_words world) (map_frame word_of frame) (stack_words stack) o)
        (bytecode_in values files frames event world frame stack o)
    bytecode_in_words None e = wrong_words
    bytecode_in_words (Some body) e =
        bytecode_by_words body.code.max_stack (option_and_then (meaning_of values files) (site_at frame.method body frame.place.offset)) (option_and_then (meaning_of words files) (site_at frame.method body frame.place.offset)) (meanings (site_at frame.method body frame.place.offset)) e
      where
        meanings : (o : Option Site) → SameIf files (option_and_then (meaning_of values files) o)
            (option_and_then (meaning_of words files) o)
        meanings None = tt
        meanings (Some site) = meaning_same files site

  -- ---- classes, and threads that begin

  initialisation_words : (frames t : ℕ) (class : Name) (phase : Phase) (world : World) (stack : StackOf Value)
      → Carries (initialisation_event words files frames t class phase (world_words world) (stack_words stack))
      (initialisation_event values files frames t class phase world stack)
  initialisation_words frames t class Super world stack =
      needing_class_words files t (before files class) world (Initialisation class Super ∷ stack) _ (initialiser_event values files frames t (initialiser_of class) world (Initialisation class End ∷ stack) (body_of files (initialiser_of class)))
      (initialiser_words files frames t (initialiser_of class) world (Initialisation class End ∷ stack) (body_of files (initialiser_of class)))
  initialisation_words frames t class End world stack = refl

  main_frame_words : (frames : ℕ) (world : World) (m : Member) (o : Option Body)
      → Carries (main_frame words files frames (world_words world) m o) (main_frame values files frames world m o)
  main_frame_words frames world m None = refl
  main_frame_words frames world m (Some body) =
      ap (λ f. pushed words files frames 0 (world_words world) (world_words (with_begun world 0)) [] [] f) (frame_words m (value.Reference arguments_reference ∷ []) (entered_by files m (class_reference files m.class)) body)
      ∙ pushed_words files frames 0 world (with_begun world 0) [] [] (frame_with values m (value.Reference arguments_reference ∷ []) (entered_by files m (class_reference files m.class)) body)

  run_frame_words : (frames t : ℕ) (world : World) (object : ℕ) (m : Member) (o : Option Body)
      → Carries (run_frame words files frames t (world_words world) object m o) (run_frame values files frames t world object m o)
  run_frame_words frames t world object m None = raised_words files t AbstractMethod world []
  run_frame_words frames t world object m (Some body) =
      ap (λ f. pushed words files frames t (world_words world) (world_words (with_begun world t)) [] [] f) (frame_words m (value.Reference object ∷ []) (entered_by files m object) body)
      ∙ pushed_words files frames t world (with_begun world t) [] [] (frame_with values m (value.Reference object ∷ []) (entered_by files m object) body)

  run_of_words : (frames t : ℕ) (world : World) (object : ℕ) (o : Option Member)
      → Carries (run_of words files frames t (world_words world) object o) (run_of values files frames t world object o)
  run_of_words frames t world object None = raised_words files t AbstractMethod world []
  run_of_words frames t world object (Some m) = run_frame_words frames t world object m (body_of files m)

  begin_words : (frames : ℕ) (world : World) (t : ℕ)
      → Carries (begin_event words files frames (world_words world) t) (begin_event values files frames world t)
  begin_words frames world zero =
      needing_class_words files 0 (Some (initial_class files)) world [] _ (main_frame values files frames world (main_of (initial_class files)) (body_of files (main_of (initial_class files))))
      (main_frame_words frames world (main_of (initial_class files)) (body_of files (main_of (initial_class files))))
  begin_words frames world (suc t) =
      let object = (thread_at world (suc t)).object in
      ap (λ c. run_of words files frames (suc t) (world_words world) object (select files c thread_run)) (ap class_of_object (object_at_words world object) ∙ class_words (object_at world object))
      ∙ run_of_words frames (suc t) world object (select files (class_of_object (object_at world object)) thread_run)

  -- ---- exceptions, and threads that leave a wait set

  pending_words : (t exception : ℕ) (thrown : Option ReferenceType) (world : World) (stack : StackOf Value)
      → Carries (pending_event words files t exception thrown (world_words world) (stack_words stack))
      (pending_event values files t exception thrown world stack)
  pending_words t exception thrown world [] = refl
  pending_words t exception thrown world (Invocation frame ∷ stack) =
      unwound_words files t exception world frame stack (option_and_then (handler_in files frame.place.offset thrown) (body_of files frame.method))
  pending_words t exception thrown world (Initialisation class phase ∷ stack) =
      failed_words files t exception (is_object_of files (ClassType java_lang_error) thrown) (with_class_status world class Erroneous) stack

  relock_words : (t object count : ℕ) (cause : WakeCause) (world : World) (stack : StackOf Value)
      → Carries (relock_event words files t object count cause (world_words world) (stack_words stack))
      (relock_event values files t object count cause world stack)
  relock_words t object count cause world stack =
      let after = with_status (with_monitors world (monitors.relock object t count world.monitors)) t Running in
      enabled_words (is_done (monitors.relock object t count world.monitors).answer) _ (after_wait values files t cause after stack) (after_wait_words files t cause after stack)

  -- ---- a thread

  module _ (rooted : Rooted files) (frames : ℕ) (event : Event) (world : World) (texts : KeepsTexts world) where
    running_words : (stack : StackOf Value) → IsRunning files (types_of world.heap) None stack
        → Carries (running_event words files frames event (world_words world) (stack_words stack))
        (running_event values files frames event world stack)
    running_words [] h = enabled_words (event.pick == 0) _ (begin_event values files frames world event.thread) (begin_words frames world event.thread)
    running_words (Invocation frame ∷ stack) h =
        bytecode_in_words frames event world texts frame stack (body_of files frame.method) (ready_finds files rooted (types_of world.heap) frame h.0)
    running_words (Initialisation class phase ∷ stack) h =
        enabled_words (event.pick == 0) _ (initialisation_event values files frames event.thread class phase world stack) (initialisation_words frames event.thread class phase world stack)

    going_words : (stack : StackOf Value) (pending : Option ℕ) → IsRunning files (types_of world.heap) pending stack
        → Carries (going_event words files frames event (world_words world) (stack_words stack) pending)
        (going_event values files frames event world stack pending)
    going_words stack None h = running_words stack h
    going_words stack (Some exception) h =
        ap (λ ts. unpicked event (pending_event words files event.thread exception (slice_get ts exception) (world_words world) (stack_words stack))) (types_words world.heap)
        ∙ enabled_words (event.pick == 0) _ (pending_event values files event.thread exception (slice_get (types_of world.heap) exception) world stack) (pending_words event.thread exception (slice_get (types_of world.heap) exception) world stack)

    thread_words : (stack : StackOf Value) (thread : Thread) (status : ThreadStatus) → thread_at world event.thread ≡ thread
        → IsStackTyped files (types_of world.heap) thread.pending stack status
        → Carries (thread_event words files frames event (world_words world) (stack_words stack) status)
        (thread_event values files frames event world stack status)
    thread_words stack thread Running e h =
        going_words stack (thread_at world event.thread).pending (subst (λ (th : Thread). IsRunning files (types_of world.heap) th.pending stack) (sym e) h)
    thread_words stack thread (Waiting object count) e h = refl
    thread_words stack thread (Relock object count cause) e h =
        enabled_words (event.pick == 0) _ (relock_event values files event.thread object count cause world stack) (relock_words event.thread object count cause world stack)
    thread_words stack thread (Ended exception) e h = refl

-- ---- the whole state

end_words : (t : ℕ) (world : World) (stack : StackOf Value)
    → end_of t (world_words world) (stack_words stack) ≡ world_words (end_of t world stack)
end_words t world [] = by (is_over (thread_at world t))
  where
    by : (b : Bool) → with_end (world_words world) t b ≡ world_words (with_end world t b)
    by true =
        let object = (thread_at world t).object in
        let over = with_thread world t (ended (thread_at world t)) in
        all_words object Notified (with_monitors over (monitors.wake_all object over.monitors)) (waiters_of over object)
    by false = refl
end_words t world (entry ∷ stack) = refl

settled_words : (t : ℕ) (y : SteppedOf (PartOf Value)) → Carries (settled t (map_stepped (map_part word_of) y)) (settled t y)
settled_words t NotEnabled = refl
settled_words t WrongKind = refl
settled_words t (Next cost p) = ap (λ w. Next cost (part w (stack_words p.stack))) (end_words t p.world p.stack)

back_words : (state : State) (t : ℕ) (y : SteppedOf (PartOf Value))
    → with_part (words_of state) t (map_stepped (map_part word_of) y) ≡ map_stepped words_of (with_part state t y)
back_words state t NotEnabled = refl
back_words state t WrongKind = refl
back_words state t (Next cost p) =
    let n = length p.world.threads - length state.stacks in
    ap (λ l. Next cost (record { world = world_words p.world; stacks = l }))
    (ap (λ k. slice_set (map stack_words state.stacks) t (stack_words p.stack) ++ replicate (length p.world.threads - k) []) (length-map state.stacks stack_words)
    ∙ (ap (λ l. l ++ replicate n []) (map_set stack_words state.stacks t p.stack)
    ∙ (ap (λ l. map stack_words (slice_set state.stacks t p.stack) ++ l) (map_copies stack_words n [])
    ∙ sym (map-append stack_words (slice_set state.stacks t p.stack) (replicate n [])))))

pub carried : (files : Program) → Rooted files → IsCarried files
carried files rooted frames state event h =
    ap (λ o. event_of words files frames (words_of state) event o) (slice_get-map stack_words state.stacks event.thread)
    ∙ by (slice_get state.stacks event.thread) refl
  where
    by : (o : Option (StackOf Value)) → slice_get state.stacks event.thread ≡ o
        → event_of words files frames (words_of state) event (option_map stack_words o)
        ≡ map_stepped words_of (event_of values files frames state event o)
    by None e = refl
    by (Some stack) e =
        let thread = thread_at state.world event.thread in
        let typed = thread_of_stack files (types_of state.world.heap) state.world.threads state.stacks event.thread stack h.threads e in
        let y = thread_event values files frames event state.world stack thread.status in
        ap (λ x. with_part (words_of state) event.thread (settled event.thread x)) (thread_words files rooted frames event state.world (texts_kept files state.world h.heap) stack thread thread.status refl typed.stack_typed)
        ∙ (ap (with_part (words_of state) event.thread) (settled_words event.thread y) ∙ back_words state event.thread (settled event.thread y))
