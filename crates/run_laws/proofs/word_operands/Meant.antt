-- A frame that is ready stands at an instruction that means something, and that finds its operands.
use Rattle.std.proofs.Common.{◌≡◌, ℕ, ◌+◌, ◌<◌, ◌≤◌, List, [], ◌∷◌, length, map, take, drop, Bool, true, false, ◌&&◌, Option, Some, None, option_map, refl, sym, ap, ◌∙◌, subst, arith}
use Rattle.std.specs.Prelude.{slice_get, nat_le, if◌then◌else◌}
use Rattle.std.specs.List.{AllByRecursion}
use Rattle.std.proofs.lemmas.Bool.{and_parts, leb-true}
use Rattle.std.proofs.lemmas.Option.{slice_get-map, same_Some}
use Rattle.std.proofs.lemmas.List.{length-map, take-map}
use Rattle.model.specs.declared.value.Value.{Value}
use Rattle.model.specs.Names.{Member}
use Rattle.model.specs.Classes.{Program, Body, body_of}
use Rattle.model.specs.Instruction.{Sized, sized_at}
use Rattle.model.specs.ReferenceTypes.{ReferenceType}
use Rattle.model.specs.Types.{Want, type_meets, value_meets}
use Rattle.model.specs.TypeOrder.{FrameType, pairwise}
use Rattle.model.specs.Operands.{Slots, Domain, Wants, words, values, over_types, over_values, over_words, reads_meet, pops_meet, is_ready, word_of}
use Rattle.model.specs.State.{ObjectOf, type_of, types_of, Running, Frame, FrameOf, Invocation, Initialisation, StackOf, State, StateOf}
use Rattle.model.specs.Worlds.{thread_at}
use Rattle.model.specs.Sites.{MeaningOf, Site, site_with, site_at}
use Rattle.model.specs.Meanings.{meaning_of}
use Rattle.model.specs.Typing.{may_stand, flow_by, flow_at}
use Rattle.model.specs.WellTyped.{has_type, Ready, Beneath, Instruction, IsStackTyped, IsWellTyped}
use Rattle.model.specs.Words.{map_object, map_frame, map_slots, words_of, AreWellTypedWords}
use Rattle.run_laws.specs.laws.Steps.{Rooted}
use Rattle.run_laws.proofs.laws.Lists.{of_pairs, pair_length}
use Rattle.run_laws.proofs.laws.Rows.{SlotsTyped, slots_of, ready_both, ready_popped}
use Rattle.run_laws.proofs.laws.Answered.{thread_of_stack}
use Rattle.run_laws.proofs.word_runs.WordWorlds.{types_words}
use Rattle.run_laws.proofs.word_runs.WordEvents.{stack_words}
use Rattle.run_laws.proofs.word_runs.WordTable.{SameIf, meaning_same}
use Rattle.run_laws.specs.word_operands.Operands.{IsOnTop, HasMeaning, AreFoundIn, Finds, is_value_in, word_meets}
use Rattle.run_laws.proofs.word_operands.Stacks.{popped_depth, popped_in, reads_below, ready_words}

-- ---- what the rule of a typing says of an instruction

taken : {A : Type 0} (test : Bool) (x y : A) → (if test then Some x else None) ≡ Some y → test ≡ true
taken true x y h = refl
taken false x y h = absurd cc

module _ (files : Program) where
  pub record Ruled (method : Member) (body : Body) (offset : ℕ) (t : FrameType) : Type 0 where
    pub site : Site
    pub is_site : site_at method body offset ≡ Some site
    pub meaning : MeaningOf Value
    pub means : meaning_of values files site ≡ Some meaning
    pub ready : is_ready (type_meets files) over_types meaning.wants body.code.max_stack t.slots ≡ true

  module _ (method : Member) (body : Body) (offset : ℕ) (t : FrameType) (leads : List (ℕ × FrameType)) where
    ruled_by : (z : Sized) → site_at method body offset ≡ Some (site_with method body offset z) → (o : Option (MeaningOf Value))
        → meaning_of values files (site_with method body offset z) ≡ o → flow_by files (site_with method body offset z) t o ≡ Some leads
        → Ruled method body offset t
    ruled_by z q None e h = absurd cc
    ruled_by z q (Some meaning) e h =
        let site = site_with method body offset z in
        let test = taken (may_stand site t site.instr && is_ready (type_meets files) over_types meaning.wants body.code.max_stack t.slots) _ leads h in
        record { site = site; is_site = q; meaning = meaning; means = e; ready = (and_parts _ _ test).1 }

    ruled_at : (o : Option Sized) → sized_at body.code.code offset ≡ o
        → flow_at files t (option_map (site_with method body offset) o) ≡ Some leads → Ruled method body offset t
    ruled_at None e h = absurd cc
    ruled_at (Some z) e h =
        ruled_by z (ap (option_map (site_with method body offset)) e) (meaning_of values files (site_with method body offset z)) refl h

    ruled : flow_at files t (site_at method body offset) ≡ Some leads → Ruled method body offset t
    ruled h = ruled_at (sized_at body.code.code offset) refl h

  -- ---- a frame that is ready

  module _ (rooted : Rooted files) (heap : List (ObjectOf Value)) (f : Frame) (h : Ready files (types_of heap) f) where
    rule : Ruled f.method h.stopped.stands.body f.place.offset h.stopped.stands.type
    rule =
        let stands = h.stopped.stands in
        let r = stands.holds.agrees f.place.offset stands.type stands.typed in
        ruled f.method stands.body f.place.offset stands.type r.leads r.flows

    slots_typed : SlotsTyped files (types_of heap) h.stopped.stands.type.slots f.place.slots
    slots_typed = slots_of files (types_of heap) h.stopped.stands.type.slots f.place.slots (record { locals = h.stopped.locals; stack = h.stack })

    -- over words it means the same
    meant_by : (w : Option (MeaningOf ℕ)) → SameIf files (Some rule.meaning) w → meaning_of words files rule.site ≡ w
        → HasMeaning files (map_frame word_of f)
    meant_by None s e = absurd s
    meant_by (Some w) s e =
        let stands = h.stopped.stands in
        record {
          body = stands.body;
          is_body = stands.is_body;
          starts = stands.holds.starts f.place.offset stands.type stands.typed;
          site = rule.site;
          is_site = rule.is_site;
          meaning = w;
          means = e;
        }

    same : SameIf files (Some rule.meaning) (meaning_of words files rule.site)
    same = subst (λ o. SameIf files o (meaning_of words files rule.site)) rule.means (meaning_same files rule.site)

    pub ready_means : HasMeaning files (map_frame word_of f)
    ready_means = meant_by (meaning_of words files rule.site) same refl

    abbrev objects : List ReferenceType
    objects = types_of heap

    -- ---- what it finds

    operands_ready : is_ready (value_meets files objects) over_values rule.meaning.wants h.stopped.stands.body.code.max_stack f.place.slots
        ≡ true
    operands_ready = ready_both files rooted objects rule.meaning.wants h.stopped.stands.body.code.max_stack h.stopped.stands.type.slots f.place.slots slots_typed rule.ready

    words_ready : is_ready (word_meets files objects) over_words rule.meaning.wants
        h.stopped.stands.body.code.max_stack (map_slots word_of f.place.slots) ≡ true
    words_ready = ready_words files objects rooted rule.meaning.wants h.stopped.stands.body.code.max_stack h.stopped.stands.type.slots f.place.slots slots_typed rule.ready

    -- the last of the tests
    has_room : {A : Type 0} (accepts : Want → A → Bool) (D : Domain A) (w : Wants) (max : ℕ) (s : Slots A)
        → is_ready accepts D w max s ≡ true → length (drop (length w.pops) s.stack) + w.grows ≤ max
    has_room accepts D w max s e =
        let a = and_parts w.allowed (reads_meet accepts D w.reads s.locals && (pops_meet accepts w.pops s.stack && nat_le (length (drop (length w.pops) s.stack) + w.grows) max)) e in
        let b = and_parts (reads_meet accepts D w.reads s.locals) (pops_meet accepts w.pops s.stack && nat_le (length (drop (length w.pops) s.stack) + w.grows) max) a.1 in
        let c = and_parts (pops_meet accepts w.pops s.stack) (nat_le (length (drop (length w.pops) s.stack) + w.grows) max) b.1 in
        leb-true (length (drop (length w.pops) s.stack) + w.grows) max c.1

    reads_met : reads_meet (type_meets files) over_types rule.meaning.wants.reads h.stopped.stands.type.slots.locals ≡ true
    reads_met = (and_parts _ _ (and_parts _ _ rule.ready).1).0

    pops_met : pops_meet (type_meets files) rule.meaning.wants.pops h.stopped.stands.type.slots.stack ≡ true
    pops_met = (and_parts _ _ (and_parts _ _ (and_parts _ _ rule.ready).1).1).0

    found_words : AreFoundIn files (map (map_object word_of) heap) rule.meaning.wants.pops (map word_of f.place.slots.stack)
    found_words =
        let n = length rule.meaning.wants.pops in
        let types = h.stopped.stands.type.slots in
        let popped = ready_popped (value_meets files objects) over_values rule.meaning.wants h.stopped.stands.body.code.max_stack f.place.slots operands_ready in
        let count : length objects ≡ length (map (map_object word_of) heap) = length-map heap type_of ∙ sym (length-map heap (map_object word_of)) in
        record {
          found = take n f.place.slots.stack;
          are = sym (take-map word_of n f.place.slots.stack);
          meet = subst (λ os. pairwise (value_meets files os) rule.meaning.wants.pops (take n f.place.slots.stack) ≡ true) (sym (types_words heap))
              (of_pairs (value_meets files objects) rule.meaning.wants.pops (take n f.place.slots.stack) popped);
          there = subst (λ k. AllByRecursion (λ v. is_value_in k v ≡ true) (take n f.place.slots.stack)) count
              (popped_in files objects rule.meaning.wants.pops types.stack f.place.slots.stack slots_typed.stack pops_met);
        }

    finds_wants : Finds files (map (map_object word_of) heap) h.stopped.stands.body rule.meaning.wants (map_slots word_of f.place.slots)
    finds_wants =
        let stands = h.stopped.stands in
        let sized = stands.holds.sized f.place.offset stands.type stands.typed in
        let w = rule.meaning.wants in
        let words_on = length-map f.place.slots.stack word_of in
        let popped = popped_depth files objects w.pops stands.type.slots.stack f.place.slots.stack slots_typed.stack pops_met in
        let on = pair_length (has_type files objects) stands.type.slots.stack f.place.slots.stack slots_typed.stack in
        let most = sized.stack in
        record {
          pops = omega (arith, words_on, popped);
          locals =
              length-map f.place.slots.locals word_of
              ∙ (sym (pair_length (has_type files objects) stands.type.slots.locals f.place.slots.locals slots_typed.locals) ∙ sized.locals);
          reads = subst (λ n. AllByRecursion (λ (read : ℕ × Want). read.0 < n) w.reads) sized.locals (reads_below files objects w.reads stands.type.slots.locals reads_met);
          depth = omega (arith, words_on, on, most);
          room = has_room (word_meets files objects) over_words w stands.body.code.max_stack (map_slots word_of f.place.slots) words_ready;
          ready = subst (λ os. is_ready (word_meets files os) over_words w stands.body.code.max_stack (map_slots word_of f.place.slots) ≡ true) (sym (types_words heap)) words_ready;
          found = found_words;
        }

    finds_by : (w : Option (MeaningOf ℕ)) → SameIf files (Some rule.meaning) w → (m : MeaningOf ℕ) → w ≡ Some m
        → Finds files (map (map_object word_of) heap) h.stopped.stands.body m.wants (map_slots word_of f.place.slots)
    finds_by None s m e = absurd s
    finds_by (Some w) s m e =
        subst (λ (x : Wants). Finds files (map (map_object word_of) heap) h.stopped.stands.body x (map_slots word_of f.place.slots))
        (sym s.wants ∙ ap (λ (x : MeaningOf ℕ). x.wants) (same_Some w m e)) finds_wants

    finds_at : (site : Site) → site_at f.method h.stopped.stands.body f.place.offset ≡ Some site → (m : MeaningOf ℕ)
        → meaning_of words files site ≡ Some m → Finds files (map (map_object word_of) heap) h.stopped.stands.body
        m.wants (map_slots word_of f.place.slots)
    finds_at site is_site m means =
        let is : rule.site ≡ site = same_Some rule.site site (sym rule.is_site ∙ is_site) in
        finds_by (meaning_of words files rule.site) same m (ap (meaning_of words files) is ∙ means)

    pub ready_operands : (body : Body) (site : Site) (m : MeaningOf ℕ) → body_of files f.method ≡ Some body
        → site_at f.method body f.place.offset ≡ Some site → meaning_of words files site ≡ Some m
        → Finds files (map (map_object word_of) heap) body m.wants (map_slots word_of f.place.slots)
    ready_operands body site m is_body is_site means =
        let is : h.stopped.stands.body ≡ body = same_Some h.stopped.stands.body body (sym h.stopped.stands.is_body ∙ is_body) in
        subst (λ (b : Body). Finds files (map (map_object word_of) heap) b m.wants (map_slots word_of f.place.slots)) is
        (finds_at site (ap (λ (b : Body). site_at f.method b f.place.offset) is ∙ is_site) m means)

  -- ---- the frame on top

  abbrev pub OperandsOf : FrameOf ℕ → List (ObjectOf ℕ) → Type 0
  OperandsOf frame heap =
      (body : Body) (site : Site) (m : MeaningOf ℕ) → body_of files frame.method ≡ Some body → site_at frame.method body frame.place.offset ≡ Some site → meaning_of words files site ≡ Some m → Finds files heap body m.wants frame.place.slots

  module _ (s : State) (typed : IsWellTyped files s) where
    -- it is the words of a frame that is ready
    record Top (frame : FrameOf ℕ) : Type 0 where
      found : Frame
      is : map_frame word_of found ≡ frame
      ready : Ready files (types_of s.world.heap) found

    top_of : (t : ℕ) (frame : FrameOf ℕ) (on : IsOnTop (words_of s) t frame) (vs : StackOf Value) → slice_get s.stacks t ≡ Some vs
        → Some (stack_words vs) ≡ Some (Invocation frame ∷ on.rest) → Top frame
    top_of t frame on [] q e = absurd cc
    top_of t frame on (Initialisation class phase ∷ vs) q e = absurd cc
    top_of t frame on (Invocation f ∷ vs) q e =
        let os = types_of s.world.heap in
        let th = thread_of_stack files os s.world.threads s.stacks t (Invocation f ∷ vs) typed.threads q in
        let thread = thread_at s.world t in
        let here : Beneath files os Instruction (Invocation f ∷ vs) =
        subst (λ p. IsStackTyped files os p (Invocation f ∷ vs) Running) on.pending (subst (λ x. IsStackTyped files os thread.pending (Invocation f ∷ vs) x) on.runs th.stack_typed)
        in
        record { found = f; is = cc; ready = here.0 }

    top_by : (t : ℕ) (frame : FrameOf ℕ) (on : IsOnTop (words_of s) t frame) (o : Option (StackOf Value)) → slice_get s.stacks t ≡ o
        → option_map stack_words o ≡ Some (Invocation frame ∷ on.rest) → Top frame
    top_by t frame on None q e = absurd cc
    top_by t frame on (Some vs) q e = top_of t frame on vs q e

    top : (t : ℕ) (frame : FrameOf ℕ) → IsOnTop (words_of s) t frame → Top frame
    top t frame on = top_by t frame on (slice_get s.stacks t) refl (sym (slice_get-map stack_words s.stacks t) ∙ on.stack)

    meant_on : (t : ℕ) (frame : FrameOf ℕ) → IsOnTop (words_of s) t frame → Rooted files → HasMeaning files frame
    meant_on t frame on rooted =
        let at = top t frame on in
        subst (HasMeaning files) at.is (ready_means rooted s.world.heap at.found at.ready)

    operands_on : (t : ℕ) (frame : FrameOf ℕ) → IsOnTop (words_of s) t frame → Rooted files → OperandsOf frame (words_of s).world.heap
    operands_on t frame on rooted =
        let at = top t frame on in
        subst (λ (x : FrameOf ℕ). OperandsOf x (words_of s).world.heap) at.is (ready_operands rooted s.world.heap at.found at.ready)

  pub meant : Rooted files → (state : StateOf ℕ) → AreWellTypedWords files state → (t : ℕ) (frame : FrameOf ℕ) → IsOnTop state t frame
      → HasMeaning files frame
  meant rooted state h t frame on = meant_on h.0 h.1.typed t frame (subst (λ (x : StateOf ℕ). IsOnTop x t frame) h.1.are on) rooted

  pub operands_found : Rooted files → (state : StateOf ℕ) → AreWellTypedWords files state → (t : ℕ) (frame : FrameOf ℕ)
      → IsOnTop state t frame → OperandsOf frame state.world.heap
  operands_found rooted state h t frame on =
      subst (λ (x : StateOf ℕ). OperandsOf frame x.world.heap) (sym h.1.are) (operands_on h.0 h.1.typed t frame (subst (λ (x : StateOf ℕ). IsOnTop x t frame) h.1.are on) rooted)
