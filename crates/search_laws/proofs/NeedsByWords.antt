-- What the next event of a thread of a well-typed state needs, by its words.
use Rattle.std.proofs.Common.{◌≡◌, ℕ, zero, suc, List, [], ◌∷◌, map, nat_lt, true, if◌then◌else◌, Option, Some, None, option_map, refl, sym, ap, ◌∙◌, subst}
use Rattle.std.specs.Prelude.{slice_get}
use Rattle.std.specs.Option.{option_and_then}
use Rattle.std.proofs.lemmas.Option.{same_Some, slice_get-map, get_or_from_slice_get}
use Rattle.model.specs.declared.event.Event.{Event}
use Rattle.model.specs.declared.instr.Instr.{Instr}
use Rattle.model.specs.declared.instr.Instr.TheVariants as instr
use Rattle.model.specs.declared.value.Value.{Value}
use Rattle.model.specs.Classes.{Program, Body, body_of}
use Rattle.model.specs.Frames.{entered_by, frame_count}
use Rattle.model.specs.Lookup.{select}
use Rattle.model.specs.Meanings.{meaning_of}
use Rattle.model.specs.MonitorMeanings.{monitor_enter_meaning}
use Rattle.model.specs.Names.{Member, thread_run}
use Rattle.model.specs.Operands.{Slots, words, values, over_words, operands, under, word_of}
use Rattle.model.specs.Outcomes.{OutcomeOf, Goes, Raises, Throws, Interrupts, Calls, Returns, Waits}
use Rattle.model.specs.Sites.{MeaningOf, Site, site_at, referent}
use Rattle.model.specs.State.{types_of, ThreadStatus, Running, Waiting, Relock, Ended, Frame, Super, End, Invocation, Initialisation, StackOf, Thread, World, State}
use Rattle.model.specs.Step.{ops_of}
use Rattle.model.specs.Objects.{any_object}
use Rattle.model.specs.Types.{AReference}
use Rattle.model.specs.WellTyped.{IsStackTyped, IsRunning, IsWellTyped}
use Rattle.model.specs.Words.{map_slots, map_frame, words_of}
use Rattle.model.specs.Worlds.{thread_at, no_thread, object_at, class_of_object}
use Rattle.model.specs.WrongKind.{finds_operands, finds_in}
use Rattle.run_laws.specs.laws.Steps.{Rooted}
use Rattle.run_laws.specs.word_runs.Words.{map_outcome}
use Rattle.run_laws.proofs.laws.Progress.{ready_finds}
use Rattle.run_laws.proofs.laws.WordLists.{operands_words, under_words}
use Rattle.run_laws.proofs.typed_runs.Settled.{thread_there}
use Rattle.run_laws.proofs.typed_runs.Texts.{texts_kept}
use Rattle.run_laws.proofs.word_runs.WordEvents.{stack_words}
use Rattle.run_laws.proofs.word_runs.WordMeanings.{Kinded, Same, referent_words}
use Rattle.run_laws.proofs.word_runs.WordTable.{SameIf, meaning_same}
use Rattle.run_laws.proofs.word_runs.WordWorlds.{KeepsTexts, world_words, object_at_words, class_words}
use Rattle.search_laws.specs.Waits.{Need, MonitorOf, callee_entered, class_need, frame_need, instruction_need, meant_need, site_need, body_need, begin_need, stack_need, going_need, status_need, next_need}
use Rattle.search_laws.proofs.Operands.{kinded}
use Rattle.search_laws.proofs.Waiting.{enter_means}

entered_words : (o : OutcomeOf Value) → callee_entered (map_outcome word_of o) ≡ callee_entered o
entered_words (Goes cost world slots to) = refl
entered_words (Raises fault) = refl
entered_words (Throws exception) = refl
entered_words Interrupts = refl
entered_words (Calls callee rest) = refl
entered_words (Returns world results) = refl
entered_words (Waits cost world rest) = refl

count_words : (stack : StackOf Value) → frame_count (stack_words stack) ≡ frame_count stack
count_words [] = refl
count_words (Invocation frame ∷ stack) = ap suc (count_words stack)
count_words (Initialisation class phase ∷ stack) = count_words stack

module _ (files : Program) (frames t : ℕ) (world : World) (texts : KeepsTexts world) where
  abbrev event : Event
  event = record { thread = t; pick = 0 }

  module _ (frame : Frame) (stack : StackOf Value) where
    abbrev whole : StackOf Value
    whole = Invocation frame ∷ stack

    module _ (site : Site) (v : MeaningOf Value) (is : meaning_of values files site ≡ Some v) (w : MeaningOf ℕ) (same : Same files v w) (q : Kinded files (types_of world.heap) v.wants (ops_of values v frame.place.slots)) where
      abbrev slots : Slots ℕ
      slots = map_slots word_of frame.place.slots

      abbrev ops : List ℕ
      ops = map word_of (ops_of values v frame.place.slots)

      ops_same : ops_of words w slots ≡ ops
      ops_same = ap (λ x. operands over_words x slots) same.wants ∙ operands_words v.wants frame.place.slots

      under_same : under w.wants slots ≡ map word_of (under v.wants frame.place.slots)
      under_same = ap (λ x. under x slots) same.wants ∙ under_words v.wants frame.place.slots

      abbrev does : OutcomeOf Value
      does = v.does event world frame.place.slots (ops_of values v frame.place.slots) (under v.wants frame.place.slots)

      does_same : w.does event (world_words world) slots (ops_of words w slots) (under w.wants slots) ≡ map_outcome word_of does
      does_same =
          ap (λ o. w.does event (world_words world) slots o (under w.wants slots)) ops_same
          ∙ (ap (λ r. w.does event (world_words world) slots ops r) under_same
          ∙ same.does event world frame.place.slots (under v.wants frame.place.slots) q texts)

      abbrev by_words : Instr → List ℕ → OutcomeOf ℕ → Option Need
      by_words = instruction_need words files frames t (world_words world) (stack_words whole)

      referent_same : site.instr ≡ instr.MonitorEnter → referent words ops 0 ≡ referent values (ops_of values v frame.place.slots) 0
      referent_same e =
          let it = same_Some (monitor_enter_meaning values site) v (sym (enter_means files site e) ∙ is) in
          subst (λ (z : MeaningOf Value). Kinded files (types_of world.heap) z.wants (ops_of values z frame.place.slots) → referent words (map word_of (ops_of values z frame.place.slots)) 0 ≡ referent values (ops_of values z frame.place.slots) 0) it enter q
        where
          enter : Kinded files (types_of world.heap) (monitor_enter_meaning values site).wants (ops_of values (monitor_enter_meaning values site) frame.place.slots)
              → referent words (map word_of (ops_of values (monitor_enter_meaning values site) frame.place.slots)) 0
              ≡ referent values (ops_of values (monitor_enter_meaning values site) frame.place.slots) 0
          enter k = referent_words files (types_of world.heap) (AReference any_object ∷ []) (ops_of values (monitor_enter_meaning values site) frame.place.slots) 0 (AReference any_object) k refl refl

      by_instr : (i : Instr) → site.instr ≡ i → by_words i ops (map_outcome word_of does)
          ≡ instruction_need values files frames t world whole i (ops_of values v frame.place.slots) does
      by_instr instr.MonitorEnter e = ap (option_map MonitorOf) (referent_same e)
      by_instr other e =
          ap (λ n. if nat_lt n frames then option_map MonitorOf (callee_entered (map_outcome word_of does)) else None) (count_words whole)
          ∙ ap (λ o. if nat_lt (frame_count whole) frames then option_map MonitorOf o else None) (entered_words does)

      meant_same : meant_need words files frames t (world_words world) (map_frame word_of frame) (stack_words stack) site w
          ≡ meant_need values files frames t world frame stack site v
      meant_same =
          ap (λ l. class_need values files frames t world l (by_words site.instr (ops_of words w slots) (w.does event (world_words world) slots (ops_of words w slots) (under w.wants slots)))) same.looks
          ∙ (ap (λ o. class_need values files frames t world v.looks (by_words site.instr (ops_of words w slots) o)) does_same
          ∙ (ap (λ o. class_need values files frames t world v.looks (by_words site.instr o (map_outcome word_of does))) ops_same
          ∙ ap (class_need values files frames t world v.looks) (by_instr site.instr refl)))

    by_meaning : (site : Site) (max : ℕ) (v : Option (MeaningOf Value)) → meaning_of values files site ≡ v → (w : Option (MeaningOf ℕ)) → SameIf files v w
        → finds_operands files (types_of world.heap) max frame v ≡ true
        → option_and_then (meant_need words files frames t (world_words world) (map_frame word_of frame) (stack_words stack) site) w
        ≡ option_and_then (meant_need values files frames t world frame stack site) v
    by_meaning site max None is None s e = refl
    by_meaning site max None is (Some w) s e = absurd s
    by_meaning site max (Some v) is None s e = absurd s
    by_meaning site max (Some v) is (Some w) s e = meant_same site v is w s (kinded files (types_of world.heap) v.wants max frame.place.slots e)

    by_site : (max : ℕ) (o : Option Site)
        → finds_operands files (types_of world.heap) max frame (option_and_then (meaning_of values files) o) ≡ true
        → option_and_then (site_need words files frames t (world_words world) (map_frame word_of frame) (stack_words stack)) o
        ≡ option_and_then (site_need values files frames t world frame stack) o
    by_site max None e = refl
    by_site max (Some site) e = by_meaning site max (meaning_of values files site) refl (meaning_of words files site) (meaning_same files site) e

    by_body : (o : Option Body) → finds_in files (types_of world.heap) frame o ≡ true
        → option_and_then (body_need words files frames t (world_words world) (map_frame word_of frame) (stack_words stack)) o
        ≡ option_and_then (body_need values files frames t world frame stack) o
    by_body None e = refl
    by_body (Some body) e = by_site body.code.max_stack (site_at frame.method body frame.place.offset) e

  begin_same : (n : ℕ) → begin_need words files frames t (world_words world) n ≡ begin_need values files frames t world n
  begin_same zero = refl
  begin_same (suc n) =
      let object = (thread_at world (suc n)).object in
      ap (λ c. option_and_then (λ (method : Member). option_and_then (λ (body : Body). frame_need values files frames t world [] (entered_by files method object)) (body_of files method)) (select files c thread_run))
      (ap class_of_object (object_at_words world object) ∙ class_words (object_at world object))

  by_stack : Rooted files → (stack : StackOf Value) → IsRunning files (types_of world.heap) None stack
      → stack_need words files frames t (world_words world) (stack_words stack) ≡ stack_need values files frames t world stack
  by_stack rooted [] h = begin_same t
  by_stack rooted (Invocation frame ∷ stack) h = by_body frame stack (body_of files frame.method) (ready_finds files rooted (types_of world.heap) frame h.0)
  by_stack rooted (Initialisation class Super ∷ stack) h = refl
  by_stack rooted (Initialisation class End ∷ stack) h = refl

  by_pending : Rooted files → (stack : StackOf Value) (o : Option ℕ) → IsRunning files (types_of world.heap) o stack
      → going_need words files frames t (world_words world) (stack_words stack) o ≡ going_need values files frames t world stack o
  by_pending rooted stack None h = by_stack rooted stack h
  by_pending rooted stack (Some exception) h = refl

module _ (files : Program) (rooted : Rooted files) (frames : ℕ) (s : State) (typed : IsWellTyped files s) (t : ℕ) where
  by_status : (stack : StackOf Value) → slice_get s.stacks t ≡ Some stack → (status : ThreadStatus) → (thread_at s.world t).status ≡ status
      → status_need words files frames t (world_words s.world) (stack_words stack) status ≡ status_need values files frames t s.world stack status
  by_status stack q Running is =
      let os = types_of s.world.heap in
      let at = thread_there files os s.world.threads s.stacks t stack typed.threads q in
      let it = get_or_from_slice_get s.world.threads t at.0 no_thread at.1.0 in
      let runs : at.0.status ≡ Running = sym (ap (λ (th : Thread). th.status) it) ∙ is in
      let running = subst (λ z. IsStackTyped files os at.0.pending stack z) runs at.1.1.stack_typed in
      by_pending files frames t s.world (texts_kept files s.world typed.heap) rooted stack (thread_at s.world t).pending
      (subst (λ p. IsRunning files os p stack) (sym (ap (λ (th : Thread). th.pending) it)) running)
  by_status stack q (Waiting object count) is = refl
  by_status stack q (Relock object count cause) is = refl
  by_status stack q (Ended exception) is = refl

  by_there : (o : Option (StackOf Value)) → slice_get s.stacks t ≡ o
      → option_and_then (λ stack. status_need words files frames t (world_words s.world) stack (thread_at s.world t).status) (option_map stack_words o)
      ≡ option_and_then (λ stack. status_need values files frames t s.world stack (thread_at s.world t).status) o
  by_there None q = refl
  by_there (Some stack) q = by_status stack q (thread_at s.world t).status refl

  pub need_by_words : next_need words files frames (words_of s) t ≡ next_need values files frames s t
  need_by_words =
      ap (option_and_then (λ stack. status_need words files frames t (world_words s.world) stack (thread_at s.world t).status)) (slice_get-map stack_words s.stacks t)
      ∙ by_there (slice_get s.stacks t) refl
