-- What an instruction finds in the frame on top, and how it leaves it.
use Rattle.std.proofs.Common.{◌≡◌, ℕ, ◌+◌, ◌<◌, ◌^◌, List, ◌∷◌, ◌++◌, length, take, drop, true, Some, Result, Ok, Err, refl, sym, ap, subst, ◌∙◌, arith}
use Rattle.std.specs.Prelude.{slice_index_or}
use Rattle.std.proofs.lemmas.Bool.{and_parts}
use Rattle.std.proofs.lemmas.List.{get_or-take}
use Rattle.std.proofs.lemmas.Option.{same_Some, slice_get_within}
use Rattle.model.specs.Classes.{Program}
use Rattle.model.specs.Frames.{at_offset}
use Rattle.model.specs.LimitStands.{Bounds}
use Rattle.model.specs.Operands.{words, pops_meet}
use Rattle.model.specs.Outcomes.{Free}
use Rattle.model.specs.Sites.{MeaningOf, Site}
use Rattle.model.specs.Meanings.{meaning_of}
use Rattle.model.specs.State as model
use Rattle.model.specs.State.{FrameOf, StackOf, WorldOf, StateOf, types_of}
use Rattle.model.specs.Step.{SteppedOf, Next, PartOf, part}
use Rattle.linked_code.specs.declared.instruction.LinkedInstruction.{LinkedInstruction}
use Rattle.linked_code.specs.declared.method.LinkedCode.{LinkedCode}
use Rattle.linked_code.specs.declared.program.LinkedProgram.{LinkedProgram}
use Rattle.linked_code.specs.Linked.{offset_in}
use Rattle.run_laws.specs.word_operands.Operands.{word_meets}
use Rattle.thread_stacks.specs.Stacks.{ShownFrame, ShownEntry, Invocation, IsTopFrame, with_top}
use Rattle.machine_state.specs.shown_stacks.Shown.{ShowsStack}
use Rattle.machine_state.specs.declared.answers.Effect.{Effect}
use Rattle.machine_state.specs.declared.answers.Effect.TheVariants as effect
use Rattle.machine_state.specs.declared.refusals.EventRefusal.{EventRefusal}
use Rattle.machine_state.specs.declared.refusals.EventRefusal.TheVariants as refusal
use Rattle.machine_state.specs.declared.state.Shared.{Shared}
use Rattle.machine_state.specs.Shown.{Represents}
use Rattle.machine_state.specs.Instructions.{Does}
use Rattle.machine_state.specs.Events.{IsUnchanged, IsDone}
use Rattle.machine_state.specs.Memory.{operand_counts, shown_counts, has_grown}
use Rattle.machine_state.proofs.Memory.{grown_frame, takes_by_growth}
use Rattle.machine_state.specs.linked_frames.Frames.{IsRunning, IsTopShown}
use Rattle.machine_state.proofs.linked_frames.Frames.{top_shown, finds_shown, meaning_is, top_frame, with_top_is}
use Rattle.machine_state.proofs.linked_frames.Moves.{free_done, replaced_shown}
use Rattle.machine_instructions.specs.Leaving.{gone_on, Leaves}

module _ (trees : Program) (p : LinkedProgram) (bounds : Bounds) (inflated : List ℕ) (t : ℕ) (old : Shared) (stack : List ShownEntry) (state : StateOf ℕ) (frame : FrameOf ℕ) (rest : StackOf ℕ) (code : LinkedCode) (site : Site) (meaning : MeaningOf ℕ) (instruction : LinkedInstruction) (is : IsRunning trees p bounds inflated t old stack state frame rest code site meaning instruction) where
  -- ---- its operands

  -- they are as the instruction wants them
  pub pops_met : (m : MeaningOf ℕ) → meaning_of words trees site ≡ Some m → pops_meet (word_meets trees (types_of state.world.heap)) m.wants.pops is.shown.operands ≡ true
  pops_met m e =
      let f = finds_shown trees p bounds inflated t old stack state frame rest code site meaning instruction is in
      let same = meaning_is trees p bounds inflated t old stack state frame rest code site meaning instruction is m e in
      subst (λ (x : MeaningOf ℕ). pops_meet (word_meets trees (types_of state.world.heap)) x.wants.pops is.shown.operands ≡ true) same
      (and_parts _ _ (and_parts _ _ (and_parts _ _ f.ready).1).1).0

  -- what a frame that is lent shows
  pub lent_shows : (found : ShownFrame) → IsTopFrame stack (Some found) → found ≡ is.shown
  lent_shows found e = same_Some found is.shown (top_frame trees p bounds inflated t old stack state frame rest code site meaning instruction is (Some found) e)

  -- an operand that is read of it is one that the meaning is given
  pub operand_is : (found : ShownFrame) → IsTopFrame stack (Some found) → (n k w : ℕ) → k < n → slice_index_or found.operands k 0 ≡ w → slice_index_or (take n frame.place.slots.stack) k 0 ≡ w
  operand_is found lent n k w less e =
      get_or-take n frame.place.slots.stack k 0 less
      ∙ ap (λ s. slice_index_or s k 0) (top_shown trees p bounds inflated t old stack state frame rest code site meaning instruction is).top.operands
      ∙ ap (λ (f : ShownFrame). slice_index_or f.operands k 0) (sym (lent_shows found lent))
      ∙ e

  -- nothing has changed where it is as it was
  pub kept : (found : ShownFrame) → IsTopFrame stack (Some found) → IsUnchanged old old stack (with_top found stack)
  kept found lent =
      record {
        shared = refl;
        stack =
            with_top_is trees p bounds inflated t old stack state frame rest code site meaning instruction is found
            ∙ ap (λ (x : ShownFrame). Invocation x ∷ is.others) (lent_shows found lent)
            ∙ sym is.is_stack;
      }

  -- ---- where it goes on

  place_within : is.shown.place < 2 ^ 63
  place_within =
      let items = code.instructions in
      let less : is.shown.place < length items.items = slice_get_within items.items is.shown.place instruction is.stands.is in
      let count = items.ok.0 in
      let most = items.ok.1 in
      let small = items.small in
      omega arith

  -- the frame at the next place, with these words in the place of so many operands
  abbrev pub next_frame : (count : ℕ) → List ℕ → FrameOf ℕ
  next_frame count results =
      at_offset frame (offset_in code.starts.items (is.shown.place + 1)) (record { locals = frame.place.slots.locals; stack = results ++ drop count frame.place.slots.stack })

  abbrev pub goes_on : WorldOf ℕ → (count : ℕ) → List ℕ → SteppedOf (PartOf ℕ)
  goes_on after count results = Next Free (part after (model.Invocation (next_frame count results) ∷ rest))

  -- other objects or static fields are shown then
  pub record IsShownAfter (after : WorldOf ℕ) (new : Shared) : Type 0 where
    pub represents : Represents trees p bounds new after
    pub fat : new.heap.locks.fat ≡ old.heap.locks.fat
    pub stacks : new.stacks ≡ old.stacks
    pub threads : length new.threads.threads ≡ length old.threads.threads

  pub unchanged : IsShownAfter state.world old
  unchanged = record { represents = is.lent.represents; fat = refl; stacks = refl; threads = refl }

  module _ (after : WorldOf ℕ) (new : Shared) (shown : IsShownAfter after new) (count : ℕ) (results : List ℕ) (found : ShownFrame) (lent : IsTopFrame stack (Some found)) (left : ShownFrame) where
    gone : left ≡ gone_on count results found → IsDone trees p bounds inflated state.world (goes_on after count results) old new (with_top left stack)
    gone e =
        let to : Invocation (gone_on count results is.shown) ∷ is.others ≡ with_top left stack =
        ap (λ (f : ShownFrame). Invocation (gone_on count results f) ∷ is.others) (sym (lent_shows found lent))
        ∙ ap (λ (f : ShownFrame). Invocation f ∷ is.others) (sym e)
        ∙ sym (with_top_is trees p bounds inflated t old stack state frame rest code site meaning instruction is left)
        in
        free_done trees p bounds inflated state.world after (model.Invocation (next_frame count results) ∷ rest) old new (with_top left stack) shown.represents
        (subst (λ s. ShowsStack trees p s (model.Invocation (next_frame count results) ∷ rest)) to (replaced_shown trees p bounds inflated t old stack state frame rest code site meaning instruction is (is.shown.place + 1) count results))
        shown.fat shown.stacks shown.threads

    place_found : found.place < 2 ^ 63
    place_found = subst (λ (f : ShownFrame). f.place < 2 ^ 63) (sym (lent_shows found lent)) place_within

    -- what is answered then is right
    pub done : (answer : Effect) → Leaves (Ok answer) count results found left
        → Does trees p bounds inflated t state.world (model.Invocation frame ∷ rest) (goes_on after count results) (Ok answer) old new stack (with_top left stack)
    done effect.Done e = gone (e place_found)
    done (effect.Raises fault) e = absurd e
    done (effect.Throws thrown) e = absurd e
    done effect.Interrupts e = absurd e
    done effect.NotEnabled e = absurd e

  -- where a word is left, memory may be wanted
  pub done_or_refused : (count : ℕ) (results : List ℕ) (found : ShownFrame) (lent : IsTopFrame stack (Some found)) (left : ShownFrame) (result : Result Effect EventRefusal) → Leaves result count results found left
      → Does trees p bounds inflated t state.world (model.Invocation frame ∷ rest) (goes_on state.world count results) result old old stack (with_top left stack)
  done_or_refused count results found lent left (Ok answer) e = done state.world old unchanged count results found lent left answer e
  done_or_refused count results found lent left (Err refusal.Memory) e =
      (record { cost = Free; next = after; is = refl; may = takes_by_growth state.world (shown_counts stack) Free after grown }, kept left (subst (λ (f : ShownFrame). IsTopFrame stack (Some f)) (sym e.0) lent))
    where
      after : PartOf ℕ
      after = part state.world (model.Invocation (next_frame count results) ∷ rest)

      shows : IsTopShown trees p is.shown is.others frame rest
      shows = top_shown trees p bounds inflated t old stack state frame rest code site meaning instruction is

      grown : has_grown (shown_counts stack) (operand_counts after.stack) ≡ true
      grown =
          grown_frame trees p is.shown is.others rest shows.under stack is.is_stack (next_frame count results)
          (subst (λ ops. length is.shown.operands < length (results ++ drop count ops)) (sym shows.top.operands)
          (subst (λ (f : ShownFrame). length f.operands < length (results ++ drop count f.operands)) (lent_shows found lent) e.1))
  done_or_refused count results found lent left (Err refusal.Objects) e = absurd e
  done_or_refused count results found lent left (Err refusal.Cells) e = absurd e
  done_or_refused count results found lent left (Err refusal.Monitors) e = absurd e
  done_or_refused count results found lent left (Err refusal.Threads) e = absurd e
  done_or_refused count results found lent left (Err refusal.LockCount) e = absurd e
