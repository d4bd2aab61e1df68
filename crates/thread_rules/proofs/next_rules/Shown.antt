-- The rule of a thread in a state that is shown.
use Rattle.std.proofs.Common.{◌≡◌, refl, sym, ◌∙◌, ap, subst, ℕ, zero, suc, ◌<◌, List, [], ◌∷◌, length, map, arith}
use Rattle.std.specs.Prelude.{Option, Some, None, slice_get, slice_index_or}
use Rattle.std.specs.Option.{option_and_then, option_map, option_map_or}
use Rattle.std.proofs.lemmas.Option.{same_Some}
use Rattle.model.specs.declared.value.Value.{Value}
use Rattle.model.specs.Classes.{Program}
use Rattle.model.specs.LimitStands.{Bounds}
use Rattle.model.specs.Operands.{values, word_of}
use Rattle.model.specs.State as model
use Rattle.model.specs.ReferenceTypes.{ReferenceType}
use Rattle.model.specs.State.{types_of, WakeCause, ThreadStatus, Running, Waiting, Relock, Ended, Thread, Frame, FrameOf, StackOf, State, StateOf}
use Rattle.model.specs.Worlds as worlds
use Rattle.model.specs.WellTyped.{AreThreadsTyped}
use Rattle.model.specs.Sites.{MeaningOf, Site}
use Rattle.model.specs.Meanings.{meaning_of}
use Rattle.model.specs.Words.{map_frame, map_stack, words_of}
use Rattle.run_laws.proofs.word_runs.WordTable.{SameIf, meaning_same}
use Rattle.run_laws.specs.word_operands.Operands.{IsOnTop}
use Rattle.heap.specs.java_threads.Table.{thread_at}
use Rattle.linked_code.specs.declared.program.LinkedProgram.{LinkedProgram}
use Rattle.thread_stacks.specs.Stacks.{ShownEntry, Invocation, Initialisation}
use Rattle.machine_state.specs.declared.state.Shared.{Shared}
use Rattle.machine_state.specs.Shown.{IsProgram, IsLent}
use Rattle.machine_state.specs.linked_frames.Frames.{StandsSomewhere, AreFramesStanding}
use Rattle.machine_state.specs.state_events.Whole.{IsShown, HasOwn, AreStacksLent}
use Rattle.machine_state.proofs.state_events.Places.{set_same}
use Rattle.data_races.specs.EventActions.{Instruction, Rule, Does, Initialises, Relocks, Other, instruction_in, running_rule, rule_by, rule_of}
use Rattle.thread_rules.specs.declared.next_rules.NextRule.{NextRule}
use Rattle.thread_rules.specs.next_rules.Rules.{IsGoing, IsRuleBy, IsRule}
use Rattle.thread_rules.specs.next_rules.Meant.{IsAtInstruction, MeansRule, AreRulesMeant}

-- ---- lists

-- what an item of a mapped list comes from
record MappedFrom {A B : Type 0} (f : A → B) (xs : List A) (k : ℕ) (y : B) : Type 0 where
  item : A
  at : slice_get xs k ≡ Some item
  is : f item ≡ y

mapped_from : {A B : Type 0} (f : A → B) (xs : List A) (k : ℕ) (y : B) → slice_get (map f xs) k ≡ Some y → MappedFrom f xs k y
mapped_from f [] k y e = absurd cc
mapped_from f (x ∷ xs) zero y e = record { item = x; at = refl; is = same_Some _ _ e }
mapped_from f (x ∷ xs) (suc k) y e = let h = mapped_from f xs k y e in record { item = h.item; at = h.at; is = h.is }

map_length : {A B : Type 0} (f : A → B) (xs : List A) → length (map f xs) ≡ length xs
map_length f [] = refl
map_length f (x ∷ xs) = ap suc (map_length f xs)

get_below : {A : Type 0} (xs : List A) (k : ℕ) (x : A) → slice_get xs k ≡ Some x → k < length xs
get_below [] k x e = absurd cc
get_below (y ∷ ys) zero x e = omega arith
get_below (y ∷ ys) (suc k) x e = let h = get_below ys k x e in omega arith

typed_length : (files : Program) (types : List ReferenceType) (threads : List Thread) (stacks : List (StackOf Value)) → AreThreadsTyped files types threads stacks
    → length stacks ≡ length threads
typed_length files types [] [] h = refl
typed_length files types [] (stack ∷ stacks) h = absurd h
typed_length files types (thread ∷ threads) [] h = absurd h
typed_length files types (thread ∷ threads) (stack ∷ stacks) h = ap suc (typed_length files types threads stacks h.1)

-- ---- one state

module _ (trees : Program) (p : LinkedProgram) (bounds : Bounds) (inflated : List ℕ) (shared : Shared) (state : State) (program : IsProgram trees p)
    (shown : IsShown trees p bounds inflated shared (words_of state)) (t : ℕ) (stack : List ShownEntry) where
  abbrev thread : Thread
  thread = worlds.thread_at state.world t

  abbrev means : NextRule → Type 0
  means told = MeansRule trees p bounds inflated t shared stack state told

  thread_is : thread_at shared.threads.threads t ≡ thread
  thread_is = ap (λ (ts : List Thread). slice_index_or ts t (model.new_thread 0)) shown.represents.world_is.threads

  abbrev told_by : StackOf Value → Rule
  told_by own = rule_by trees thread own thread.status

  rule_is : (own : StackOf Value) → slice_get state.stacks t ≡ Some own → rule_of trees state t ≡ told_by own
  rule_is own e = ap (λ o. option_map_or (λ (s : StackOf Value). rule_by trees thread s thread.status) o Other) e

  -- by what it is about
  with_status : (own : StackOf Value) (status : ThreadStatus) → slice_get state.stacks t ≡ Some own → thread.status ≡ status → rule_of trees state t ≡ rule_by trees thread own status
  with_status own status e s = rule_is own e ∙ ap (rule_by trees thread own) s

  going : (own : StackOf Value) (pending : Option ℕ) → slice_get state.stacks t ≡ Some own → thread.status ≡ Running → thread.pending ≡ pending
      → rule_of trees state t ≡ running_rule trees pending own
  going own pending e s q = with_status own Running e s ∙ ap (λ o. running_rule trees o own) q

  -- ---- at an instruction

  module _ (stand : AreFramesStanding) (frame : Frame) (rest : StackOf Value) (lends : IsLent trees p bounds inflated t shared stack (words_of state) (map_stack word_of (model.Invocation frame ∷ rest)))
      (own_is : slice_get state.stacks t ≡ Some (model.Invocation frame ∷ rest)) (running : thread.status ≡ Running) (quiet : thread.pending ≡ None)
      (there : t < length state.world.threads) where
    on_top : IsOnTop (words_of state) t (map_frame word_of frame)
    on_top = record { rest = map_stack word_of rest; stack = lends.is_own; runs = running; pending = quiet }

    somewhere : StandsSomewhere trees p bounds inflated t shared stack (words_of state) (map_frame word_of frame) (map_stack word_of rest)
    somewhere = stand trees p program bounds inflated t shared stack (words_of state) (map_frame word_of frame) (map_stack word_of rest) lends on_top

    with_meaning : (o : Option (MeaningOf Value)) → meaning_of values trees somewhere.site ≡ o → SameIf trees o (Some somewhere.meaning)
        → IsAtInstruction trees p bounds inflated t shared stack state
    with_meaning None e h = absurd h
    with_meaning (Some meaning) e same =
        let at = somewhere.is.stands.at in
        let instruction : Instruction = record { site = somewhere.site; meaning = meaning; slots = frame.place.slots } in
        record {
          instruction = instruction;
          is_rule =
              going (model.Invocation frame ∷ rest) None own_is running quiet
              ∙ ap (λ o. option_map_or (λ i. Does i) (option_and_then (instruction_in trees frame) o) Other) at.is_body
              ∙ ap (λ o. option_map_or (λ i. Does i) (option_and_then (λ (site : Site). option_map (λ (m : MeaningOf Value). record { site = site; meaning = m; slots = frame.place.slots }) (meaning_of values trees site)) o) Other) at.stands
              ∙ ap (λ o. option_map_or (λ i. Does i) (option_map (λ (m : MeaningOf Value). record { site = somewhere.site; meaning = m; slots = frame.place.slots }) o) Other) e;
          stands = record {
            frame = frame;
            rest = rest;
            body = at.body;
            there = there;
            stack = own_is;
            running = running;
            quiet = quiet;
            has_body = at.is_body;
            at = at.stands;
            means = e;
            slots = refl;
          };
          rest = map_stack word_of rest;
          code = somewhere.code;
          meaning = somewhere.meaning;
          linked = somewhere.instruction;
          runs = somewhere.is;
          looks = same.looks;
          wants = same.wants;
        }

    at_instruction : IsAtInstruction trees p bounds inflated t shared stack state
    at_instruction =
        with_meaning (meaning_of values trees somewhere.site) refl
        (subst (λ (w : Option (MeaningOf ℕ)). SameIf trees (meaning_of values trees somewhere.site) w) somewhere.is.stands.at.means (meaning_same trees somewhere.site))

module _ (trees : Program) (p : LinkedProgram) (bounds : Bounds) (inflated : List ℕ) (shared : Shared) (state : State) (program : IsProgram trees p)
    (shown : IsShown trees p bounds inflated shared (words_of state)) (lent : AreStacksLent) (stand : AreFramesStanding) (t : ℕ) where
  -- a thread that has a stack is there
  is_there : (own : StackOf Value) → slice_get state.stacks t ≡ Some own → t < length state.world.threads
  is_there own e =
      let typed = shown.typed.0 in
      let are = shown.typed.1.are in
      let below = get_below state.stacks t own e in
      let stacks : length state.stacks ≡ length typed.stacks =
      sym (map_length (map_stack word_of) state.stacks) ∙ ap (λ (w : StateOf ℕ). length w.stacks) are ∙ map_length (map_stack word_of) typed.stacks in
      let threads : length typed.world.threads ≡ length state.world.threads = ap (λ (w : StateOf ℕ). length w.world.threads) (sym are) in
      let both = typed_length trees (types_of typed.world.heap) typed.world.threads typed.stacks shown.typed.1.typed.threads in
      omega arith

  going_told : (stack : List ShownEntry) (own : StackOf Value) → slice_get state.stacks t ≡ Some own
      → IsLent trees p bounds inflated t shared stack (words_of state) (map_stack word_of own) → (worlds.thread_at state.world t).status ≡ Running
      → (worlds.thread_at state.world t).pending ≡ None → (told : NextRule) → IsGoing stack told → MeansRule trees p bounds inflated t shared stack state told
  going_told [] [] e lends s q told is =
      subst (MeansRule trees p bounds inflated t shared [] state) (sym is) (going trees p bounds inflated shared state program shown t [] [] None e s q)
  going_told [] (entry ∷ own) e lends s q told is = absurd lends.shows_stack
  going_told (Invocation first ∷ others) [] e lends s q told is = absurd lends.shows_stack
  going_told (Invocation first ∷ others) (model.Invocation frame ∷ rest) e lends s q told is =
      subst (MeansRule trees p bounds inflated t shared (Invocation first ∷ others) state) (sym is)
      (at_instruction trees p bounds inflated shared state program shown t (Invocation first ∷ others) stand frame rest lends e s q (is_there (model.Invocation frame ∷ rest) e))
  going_told (Invocation first ∷ others) (model.Initialisation class phase ∷ rest) e lends s q told is = absurd lends.shows_stack.0
  going_told (Initialisation number at ∷ others) [] e lends s q told is = absurd lends.shows_stack
  going_told (Initialisation number at ∷ others) (model.Invocation frame ∷ rest) e lends s q told is = absurd lends.shows_stack.0
  going_told (Initialisation number at ∷ others) (model.Initialisation class phase ∷ rest) e lends s q told is =
      subst (MeansRule trees p bounds inflated t shared (Initialisation number at ∷ others) state) (sym is) (
        class,
        lends.shows_stack.0.0,
        going trees p bounds inflated shared state program shown t (Initialisation number at ∷ others) (model.Initialisation class phase ∷ rest) None e s q
            ∙ ap (λ (ph : model.Phase). Initialises class ph) (sym lends.shows_stack.0.1),
      )

  module _ (stack : List ShownEntry) (own : StackOf Value) (e : slice_get state.stacks t ≡ Some own)
      (lends : IsLent trees p bounds inflated t shared stack (words_of state) (map_stack word_of own)) where
    abbrev meant : NextRule → Type 0
    meant told = MeansRule trees p bounds inflated t shared stack state told

    by : (status : ThreadStatus) → (worlds.thread_at state.world t).status ≡ status → (pending : Option ℕ) → (worlds.thread_at state.world t).pending ≡ pending
        → (told : NextRule) → IsRuleBy status pending stack told → meant told
    by Running s None q told is = going_told stack own e lends s q told is
    by Running s (Some exception) q told is = subst meant (sym is) (going trees p bounds inflated shared state program shown t stack own (Some exception) e s q)
    by (Waiting object count) s pending q told is =
        subst meant (sym is) (with_status trees p bounds inflated shared state program shown t stack own (Waiting object count) e s)
    by (Relock object count cause) s pending q told is =
        subst meant (sym is.1)
        (with_status trees p bounds inflated shared state program shown t stack own (Relock object count cause) e s ∙ ap (λ (c : WakeCause). Relocks c) (sym is.2))
    by (Ended exception) s pending q told is =
        subst meant (sym is) (with_status trees p bounds inflated shared state program shown t stack own (Ended exception) e s)

  module _ (stack : List ShownEntry) (at : slice_get shared.stacks.items t ≡ Some stack) where
    lent_own : HasOwn trees p bounds inflated t shared stack (words_of state)
    lent_own =
        lent trees p bounds inflated shared (words_of state) shown t stack at stack shared
        (record { rest = refl; stacks = sym (set_same shared.stacks.items t stack at) })

    rule_meant : (told : NextRule) → IsRule (thread_at shared.threads.threads t) stack told → MeansRule trees p bounds inflated t shared stack state told
    rule_meant told is =
        let from = mapped_from (map_stack word_of) state.stacks t lent_own.own lent_own.is in
        let lends = subst (λ (own : StackOf ℕ). IsLent trees p bounds inflated t shared stack (words_of state) own) (sym from.is) lent_own.lends in
        let one = thread_is trees p bounds inflated shared state program shown t stack in
        by stack from.item from.at lends (worlds.thread_at state.world t).status refl (worlds.thread_at state.world t).pending refl told
        (subst (λ (x : Thread). IsRuleBy x.status x.pending stack told) one is)

pub rules_meant : AreStacksLent → AreFramesStanding → AreRulesMeant
rules_meant lent stand trees p bounds inflated shared state program shown t stack at told is =
    rule_meant trees p bounds inflated shared state program shown lent stand t stack at told is
