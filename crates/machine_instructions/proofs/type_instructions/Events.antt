-- What an instruction comes to, by what its meaning does, and by how it leaves its frame.
use Rattle.std.proofs.Common.{◌≡◌, ◌+◌, ◌<◌, ◌≤◌, ◌^◌, ℕ, zero, suc, List, [], ◌∷◌, ◌++◌, Some, None, Result, Ok, Err, true, length, take, drop, refl, sym, ap, subst, arith, ◌∙◌}
use Rattle.std.specs.Prelude.{slice_index_or}
use Rattle.std.proofs.lemmas.Option.{same_Some, slice_get_within}
use Rattle.model.specs.Classes.{Program}
use Rattle.model.specs.Frames.{at_offset}
use Rattle.model.specs.LimitStands.{Bounds}
use Rattle.model.specs.Operands.{Slots, words, under}
use Rattle.model.specs.Outcomes.{Cost, Free, OutcomeOf, Goes}
use Rattle.model.specs.Sites.{MeaningOf, Site}
use Rattle.model.specs.Meanings.{meaning_of}
use Rattle.model.specs.State as model
use Rattle.model.specs.State.{FrameOf, StackOf, StateOf, WorldOf}
use Rattle.model.specs.Step.{SteppedOf, Next, PartOf, part, enabled_if, become, ops_of, done}
use Rattle.linked_code.specs.declared.instruction.LinkedInstruction.{LinkedInstruction}
use Rattle.linked_code.specs.declared.method.LinkedCode.{LinkedCode}
use Rattle.linked_code.specs.declared.program.LinkedProgram.{LinkedProgram}
use Rattle.linked_code.specs.Linked.{offset_in}
use Rattle.thread_stacks.specs.Stacks.{ShownFrame, ShownEntry, IsTopFrame, with_top}
use Rattle.machine_state.specs.shown_stacks.Shown.{ShowsStack}
use Rattle.machine_state.specs.declared.answers.Effect.{Effect}
use Rattle.machine_state.specs.declared.answers.Effect.TheVariants as effect
use Rattle.machine_state.specs.declared.refusals.EventRefusal.{EventRefusal}
use Rattle.machine_state.specs.declared.refusals.EventRefusal.TheVariants as refusal
use Rattle.machine_state.specs.declared.state.Shared.{Shared}
use Rattle.machine_state.specs.Shown.{Represents}
use Rattle.machine_state.specs.Instructions.{Does, instruction_event}
use Rattle.machine_state.specs.Events.{IsUnchanged, IsDone}
use Rattle.machine_state.specs.Memory.{operand_counts, shown_counts, has_grown}
use Rattle.machine_state.proofs.Memory.{grown_frame, takes_by_growth}
use Rattle.machine_state.specs.linked_frames.Frames.{IsRunning, event_of}
use Rattle.machine_state.proofs.linked_frames.Frames.{top_shown, finds_shown, meaning_is, event_is, top_frame, with_top_is}
use Rattle.machine_state.proofs.linked_frames.Moves.{free_done, replaced_shown}
use Rattle.machine_instructions.specs.Leaving.{gone_on, Leaves}

-- ---- operands

-- an operand among those that are popped
pub popped : (n k : ℕ) (ss : List ℕ) → k < n → slice_index_or (take n ss) k 0 ≡ slice_index_or ss k 0
popped zero k ss lt = absurd (omega arith)
popped (suc n) k [] lt = refl
popped (suc n) zero (x ∷ ss) lt = refl
popped (suc n) (suc k) (x ∷ ss) lt = popped n k ss (omega arith)

-- the one on top, and what lies under it
pub top_and_rest : (ss : List ℕ) → 1 ≤ length ss → slice_index_or ss 0 0 ∷ drop 1 ss ≡ ss
top_and_rest [] le = absurd (omega arith)
top_and_rest (x ∷ ss) le = refl

module _ {trees : Program} {p : LinkedProgram} {bounds : Bounds} {inflated : List ℕ} {t : ℕ} {shared : Shared} {stack : List
    ShownEntry} {state : StateOf ℕ} {frame : FrameOf ℕ} {rest : StackOf ℕ} {code : LinkedCode} {site : Site} {meaning : MeaningOf
    ℕ} {instruction : LinkedInstruction} (is : IsRunning trees p bounds inflated t shared stack state frame rest code site meaning
    instruction) where
  -- ---- the frame on top

  -- its place is one of a list in memory
  pub place_small : is.shown.place < 2 ^ 63
  place_small =
      let within : is.shown.place < length code.instructions.items = slice_get_within code.instructions.items is.shown.place instruction is.stands.is in
      let all : code.instructions.len ≡ length code.instructions.items = code.instructions.ok.0 in
      let room : code.instructions.len ≤ code.instructions.cap = code.instructions.ok.1 in
      let few : code.instructions.cap < 2 ^ 63 = code.instructions.small in
      omega arith

  pub is_top : (f : ShownFrame) → IsTopFrame stack (Some f) → f ≡ is.shown
  is_top f e = same_Some f is.shown (top_frame trees p bounds inflated t shared stack state frame rest code site meaning instruction is (Some f) e)

  -- there is one
  pub has_top : IsTopFrame stack None → ⊥
  has_top e = let none : None ≡ Some is.shown = top_frame trees p bounds inflated t shared stack state frame rest code site meaning instruction is None e in absurd cc

  pub operands_are : frame.place.slots.stack ≡ is.shown.operands
  operands_are = (top_shown trees p bounds inflated t shared stack state frame rest code site meaning instruction is).top.operands

  -- an operand that is popped is the one that was read
  pub operand_is : (f : ShownFrame) → f ≡ is.shown → (n k : ℕ) → k < n → (w : ℕ) → w ≡ slice_index_or f.operands k 0
      → slice_index_or (take n frame.place.slots.stack) k 0 ≡ w
  operand_is f top n k lt w e =
      popped n k frame.place.slots.stack lt ∙ ap (λ ss. slice_index_or ss k 0) (operands_are ∙ ap (λ (g : ShownFrame). g.operands) (sym top)) ∙ sym e

  -- so many are there
  pub operands_there : (m : MeaningOf ℕ) → meaning_of words trees site ≡ Some m → length m.wants.pops ≤ length is.shown.operands
  operands_there m e =
      subst (λ (x : MeaningOf ℕ). length x.wants.pops ≤ length is.shown.operands) (meaning_is trees p bounds inflated t shared stack state frame rest code site meaning instruction is m e)
      (finds_shown trees p bounds inflated t shared stack state frame rest code site meaning instruction is).pops

  -- a frame that stays leaves the stack as it is
  pub unchanged : (f : ShownFrame) → f ≡ is.shown → with_top f stack ≡ stack
  unchanged f e = ap (λ g. with_top g stack) e ∙ with_top_is trees p bounds inflated t shared stack state frame rest code site meaning instruction is is.shown ∙ sym is.is_stack

  -- ---- the event

  -- it is what becomes of the state by what the meaning does
  pub event_by : (frames : ℕ) (m : MeaningOf ℕ) → meaning_of words trees site ≡ Some m
      → m.may (event_of t) state.world (ops_of words m frame.place.slots) ≡ true
      → (outcome : OutcomeOf ℕ) → m.does (event_of t) state.world
      frame.place.slots (ops_of words m frame.place.slots) (under m.wants frame.place.slots) ≡ outcome
      → instruction_event trees frames (event_of t) state.world frame rest meaning ≡ become words trees frames t state.world frame rest outcome
  event_by frames m e may outcome does =
      event_is trees p bounds inflated t shared stack state frame rest code site meaning instruction is frames (event_of t) m e
      ∙ ap (λ b. enabled_if b (done words trees frames (event_of t) state.world frame rest m)) may
      ∙ ap (become words trees frames t state.world frame rest) does

  -- the slots after it, with these words in the place of so many operands
  abbrev pub slots_after : (count : ℕ) → List ℕ → Slots ℕ
  slots_after count results = record { locals = frame.place.slots.locals; stack = results ++ drop count frame.place.slots.stack }

  abbrev pub own_after : (count : ℕ) → List ℕ → StackOf ℕ
  own_after count results = model.Invocation (at_offset frame (offset_in code.starts.items (is.shown.place + 1)) (slots_after count results)) ∷ rest

  -- it goes on at the next place
  pub goes_on : (frames : ℕ) (cost : Cost) (after : WorldOf ℕ) (count : ℕ) (results : List ℕ)
      → site.next ≡ offset_in code.starts.items (is.shown.place + 1)
      → become words trees frames t state.world frame rest (Goes cost after (slots_after count results) site.next)
      ≡ Next cost (part after (own_after count results))
  goes_on frames cost after count results next = ap (λ o. Next cost (part after (model.Invocation (at_offset frame o (slots_after count results)) ∷ rest))) next

  -- the stack after it
  pub shows_after : (count : ℕ) (results : List ℕ) (from to : ShownFrame) → from ≡ is.shown → to ≡ gone_on count results from
      → ShowsStack trees p (with_top to stack) (own_after count results)
  shows_after count results from to top left =
      subst (λ s. ShowsStack trees p s (own_after count results))
      (sym (ap (λ f. with_top f stack) (left ∙ ap (gone_on count results) top) ∙ with_top_is trees p bounds inflated t shared stack state frame rest code site meaning instruction is (gone_on count results is.shown)))
      (replaced_shown trees p bounds inflated t shared stack state frame rest code site meaning instruction is (is.shown.place + 1) count results)

  -- ---- an instruction that takes nothing

  abbrev pub IsEvent : ℕ → SteppedOf (PartOf ℕ) → Type 0
  IsEvent frames stepped = instruction_event trees frames (event_of t) state.world frame rest meaning ≡ stepped

  abbrev pub DoesSo : ℕ → Result Effect EventRefusal → Shared → List ShownEntry → Type 0
  DoesSo frames result new to =
      Does trees p bounds inflated t state.world (model.Invocation frame ∷ rest) (instruction_event trees frames (event_of t) state.world frame rest meaning) result shared new stack to

  -- it is done, in a world that is shown after it
  pub done_free : (frames : ℕ) (after : WorldOf ℕ) (new : Shared) (count : ℕ) (results : List ℕ) (from to : ShownFrame) (told : Effect)
      → Leaves (Ok told) count results from to → from ≡ is.shown
      → IsEvent frames (Next Free (part after (own_after count results)))
      → Represents trees p bounds new after → new.heap.locks.fat ≡ shared.heap.locks.fat → new.stacks ≡ shared.stacks
      → new.threads ≡ shared.threads
      → DoesSo frames (Ok told) new (with_top to stack)
  done_free frames after new count results from to effect.Done left top event shows fat stacks threads =
      let small : from.place < 2 ^ 63 = subst (λ (f : ShownFrame). f.place < 2 ^ 63) (sym top) place_small in
      subst (λ s. IsDone trees p bounds inflated state.world s shared new (with_top to stack)) (sym event)
      (free_done trees p bounds inflated state.world after (own_after count results) shared new (with_top to stack) shows (shows_after count results from to top (left small)) fat stacks
      (ap (λ table. length table.threads) threads))
  done_free frames after new count results from to (effect.Raises fault) left top event shows fat stacks threads = absurd left
  done_free frames after new count results from to (effect.Throws thrown) left top event shows fat stacks threads = absurd left
  done_free frames after new count results from to effect.Interrupts left top event shows fat stacks threads = absurd left
  done_free frames after new count results from to effect.NotEnabled left top event shows fat stacks threads = absurd left

  -- it changes no more than its frame
  pub does_own : (frames : ℕ) (count : ℕ) (results : List ℕ) (from to : ShownFrame) (result : Result Effect EventRefusal)
      → Leaves result count results from to → from ≡ is.shown
      → IsEvent frames (Next Free (part state.world (own_after count results))) → DoesSo frames result shared (with_top to stack)
  does_own frames count results from to (Ok told) left top event =
      done_free frames state.world shared count results from to told left top event is.lent.represents refl refl refl
  does_own frames count results from to (Err refusal.Memory) left top event =
      (record { cost = Free; next = after; is = event; may = takes_by_growth state.world (shown_counts stack) Free after grown }, record { shared = refl; stack = unchanged to (left.0 ∙ top) })
    where
      after : PartOf ℕ
      after = part state.world (own_after count results)

      grown : has_grown (shown_counts stack) (operand_counts after.stack) ≡ true
      grown =
          grown_frame trees p is.shown is.others rest (top_shown trees p bounds inflated t shared stack state frame rest code site meaning instruction is).under stack is.is_stack
          (at_offset frame (offset_in code.starts.items (is.shown.place + 1)) (slots_after count results))
          (subst (λ ops. length is.shown.operands < length (results ++ drop count ops)) (sym operands_are)
          (subst (λ (f : ShownFrame). length f.operands < length (results ++ drop count f.operands)) top left.1))
  does_own frames count results from to (Err refusal.Objects) left top event = absurd left
  does_own frames count results from to (Err refusal.Cells) left top event = absurd left
  does_own frames count results from to (Err refusal.Monitors) left top event = absurd left
  does_own frames count results from to (Err refusal.Threads) left top event = absurd left
  does_own frames count results from to (Err refusal.LockCount) left top event = absurd left

  -- it leaves all as it is
  pub stays : (f : ShownFrame) → f ≡ is.shown → IsUnchanged shared shared stack (with_top f stack)
  stays f e = record { shared = refl; stack = unchanged f e }
