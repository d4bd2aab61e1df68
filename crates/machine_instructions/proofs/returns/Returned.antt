-- What a return gives to the invoker.
use Rattle.std.proofs.Common.{◌≡◌, ◌<◌, ℕ, suc, List, [], ◌∷◌, Option, Some, None, Bool, true, false, not, if◌then◌else◌, Result, Ok, Err, length, map, take, drop, refl, sym, ap, subst, ◌∙◌}
use Rattle.std.specs.Result.{IsErrAnd}
use Rattle.std.specs.Prelude.{slice_get, slice_index_or, option_to_list}
use Rattle.std.proofs.lemmas.Bool.{false≢true, and_parts}
use Rattle.std.proofs.lemmas.Option.{slice_get_within, slice_get-get_or}
use Rattle.model.specs.declared.instr.Returned.{Returned}
use Rattle.model.specs.declared.instr.Returned.TheVariants as returned
use Rattle.model.specs.Names.{Name}
use Rattle.model.specs.Classes.{Program}
use Rattle.model.specs.DescribedTypes.{DeclaredType, declared_want, results_declared}
use Rattle.model.specs.Operands.{words}
use Rattle.model.specs.Sites.{MeaningOf, Site}
use Rattle.model.specs.Meanings.{meaning_of}
use Rattle.model.specs.State as model
use Rattle.model.specs.State.{FrameOf, StackOf, StateOf, Thread, WorldOf}
use Rattle.model.specs.Worlds.{has_ended, no_thread, thread_at}
use Rattle.model.specs.Calls.{is_nothing, is_reference_returned, returned_by, return_of}
use Rattle.model.specs.LimitStands.{Bounds}
use Rattle.model.specs.Outcomes.{Free}
use Rattle.model.specs.Step.{SteppedOf, PartOf, part, on_to, leaving}
use Rattle.model.specs.Step as step
use Rattle.run_laws.specs.word_runs.Words.{AreInCode}
use Rattle.run_laws.proofs.word_runs.InCode.{in_code}
use Rattle.run_laws.proofs.typed_threads.Threads.{tables_counted}
use Rattle.linked_code.specs.declared.instruction.LinkedInstruction.{LinkedInstruction}
use Rattle.linked_code.specs.declared.method.LinkedCode.{LinkedCode}
use Rattle.linked_code.specs.declared.program.LinkedProgram.{LinkedProgram}
use Rattle.linked_code.specs.Linked.{IsLinked, offset_in}
use Rattle.thread_stacks.specs.Stacks.{ShownFrame, ShownEntry, Invocation, returned as returned_to}
use Rattle.machine_state.specs.shown_stacks.Shown.{ShowsStack}
use Rattle.machine_state.proofs.shown_stacks.Laws.{return}
use Rattle.machine_state.specs.declared.state.Shared.{Shared}
use Rattle.machine_state.specs.declared.answers.MachineException.TheVariants as exception
use Rattle.machine_state.specs.declared.answers.Effect.{Effect}
use Rattle.machine_state.specs.declared.answers.Effect.TheVariants as effect
use Rattle.machine_state.specs.declared.refusals.EventRefusal.{EventRefusal}
use Rattle.machine_state.specs.declared.refusals.EventRefusal.TheVariants as refusal
use Rattle.machine_state.specs.Events.{MayBeRefused, IsDone}
use Rattle.machine_state.specs.Instructions.{Does, instruction_event}
use Rattle.machine_state.specs.linked_frames.Frames.{IsRunning, DoesOwn, event_of}
use Rattle.machine_state.proofs.linked_frames.Frames.{top_shown, finds, meaning_is, event_is}
use Rattle.machine_instructions.specs.returns.Places.{IsNextOfTop}
use Rattle.machine_instructions.specs.returns.Leaving.{HasEntered, SaysMayLeave, with_leave, Leaves}
use Rattle.machine_instructions.specs.returns.Returned.{returning, result_in, IsGiven}
use Rattle.machine_state.specs.Memory.{operand_counts, shown_counts, has_grown, takes_memory}
use Rattle.machine_state.proofs.Memory.{takes_by_growth}
use Rattle.machine_instructions.proofs.returns.Given.{given_grows}
use Rattle.machine_instructions.proofs.returns.Exits.{entered_is, under_shown, not_owned, goes_on, done}

-- ---- what it means

pub record Returning (trees : Program) (site : Site) (value : Bool) : Type 0 where
  pub kind : Returned
  pub nothing : is_nothing kind ≡ not value
  pub is : meaning_of words trees site ≡ Some (return_of words trees site.method.descriptor kind)

meant : (trees : Program) (p : LinkedProgram) (at : ℕ → ℕ) (code : List LinkedInstruction) (site : Site) (k : ℕ) (value : Bool)
    → IsLinked trees p at code site k (returning value) → Returning trees site value
meant trees p at code site k true linked = record { kind = linked.kind; nothing = linked.value; is = linked.is }
meant trees p at code site k false linked = record { kind = returned.Nothing; nothing = refl; is = linked }

-- ---- what it gives

top_taken : (n : ℕ) (stack : List ℕ) → slice_index_or (take (suc n) stack) 0 0 ≡ slice_index_or stack 0 0
top_taken n [] = refl
top_taken n (x ∷ xs) = refl

first_taken : (trees : Program) (types : List DeclaredType) → is_reference_returned (returned_by types) ≡ true → (stack : List ℕ)
    → slice_index_or (take (length (map (declared_want trees) types)) stack) 0 0 ≡ slice_index_or stack 0 0
first_taken trees [] reference stack = absurd (false≢true reference)
first_taken trees (type ∷ types) reference stack = top_taken (length (map (declared_want trees) types)) stack

module _ (trees : Program) (t : ℕ) (world : WorldOf ℕ) (frame : FrameOf ℕ) (rest : StackOf ℕ) where
  abbrev pub returns_to : Option ℕ → SteppedOf (PartOf ℕ)
  returns_to result = leaving words trees t frame.entered world (step.returned trees (option_to_list result) rest) (model.Invocation frame ∷ rest)

module _ (trees : Program) (frames t : ℕ) (world : WorldOf ℕ) (frame : FrameOf ℕ) (rest : StackOf ℕ) (descriptor : Name) where
  by_kind : (value : Bool) (kind : Returned) → is_nothing kind ≡ not value → (return_of words trees descriptor kind).wants.allowed ≡ true
      → instruction_event trees frames (event_of t) world frame rest (return_of words trees descriptor kind)
      ≡ returns_to trees t world frame rest (if value then Some (slice_index_or frame.place.slots.stack 0 0) else None)
  by_kind false returned.Nothing nothing allowed = refl
  by_kind false returned.Int nothing allowed = absurd (false≢true nothing)
  by_kind false returned.Reference nothing allowed = absurd (false≢true nothing)
  by_kind true returned.Nothing nothing allowed = absurd (false≢true (sym nothing))
  by_kind true returned.Int nothing allowed = ap (λ word. returns_to trees t world frame rest (Some word)) (top_taken 0 frame.place.slots.stack)
  by_kind true returned.Reference nothing allowed = ap (λ word. returns_to trees t world frame rest (Some word)) (first_taken trees (results_declared descriptor) allowed frame.place.slots.stack)

shown_result : (value : Bool) (stack : List ShownEntry) (shown : ShownFrame) (others : List ShownEntry) → stack ≡ Invocation shown ∷ others
    → result_in value stack ≡ (if value then Some (slice_index_or shown.operands 0 0) else None)
shown_result true stack shown others is = ap (result_in true) is
shown_result false stack shown others is = ap (result_in false) is

-- ---- a thread that runs

module _ (trees : Program) (p : LinkedProgram) (bounds : Bounds) (inflated : List ℕ) (t : ℕ) (shared : Shared) (stack : List ShownEntry)
    (state : StateOf ℕ) (frame : FrameOf ℕ) (rest : StackOf ℕ) (code : LinkedCode) (site : Site) (meaning : MeaningOf ℕ) (value : Bool)
    (is : IsRunning trees p bounds inflated t shared stack state frame rest code site meaning (returning value)) where
  here : Returning trees site value
  here = meant trees p (offset_in code.starts.items) code.instructions.items site is.shown.place value is.stands.linked

  abbrev m : MeaningOf ℕ
  m = return_of words trees site.method.descriptor here.kind

  allowed : m.wants.allowed ≡ true
  allowed =
      ap (λ (x : MeaningOf ℕ). x.wants.allowed) (sym (meaning_is trees p bounds inflated t shared stack state frame rest code site meaning (returning value) is m here.is))
      ∙ (and_parts meaning.wants.allowed _ (finds trees p bounds inflated t shared stack state frame rest code site meaning (returning value) is).ready).0

  -- what becomes of its event
  pub event_returns : (frames : ℕ) → instruction_event trees frames (event_of t) state.world frame rest meaning
      ≡ returns_to trees t state.world frame rest (result_in value stack)
  event_returns frames =
      event_is trees p bounds inflated t shared stack state frame rest code site meaning (returning value) is frames (event_of t) m here.is
      ∙ by_kind trees frames t state.world frame rest site.method.descriptor value here.kind here.nothing allowed
      ∙ (λ i. returns_to trees t state.world frame rest (if value then Some (slice_index_or (operands i) 0 0) else None))
      ∙ ap (returns_to trees t state.world frame rest) (sym (shown_result value stack is.shown is.others is.is_stack))
    where
      operands : frame.place.slots.stack ≡ is.shown.operands
      operands = (top_shown trees p bounds inflated t shared stack state frame rest code site meaning (returning value) is).top.operands

  -- the frames under it stand in code
  pub rest_in_code : AreInCode trees rest
  rest_in_code = (in_code trees state is.lent.typed t thread (model.Invocation frame ∷ rest) there is.lent.is_own running).1
    where
      within : t < length state.world.threads
      within = subst (λ n. t < n) (tables_counted trees state is.lent.typed).stacks (slice_get_within state.stacks t (model.Invocation frame ∷ rest) is.lent.is_own)

      thread : Thread
      thread = thread_at state.world t

      there : slice_get state.world.threads t ≡ Some thread
      there = slice_get-get_or state.world.threads t no_thread within

      running : has_ended thread.status ≡ false
      running = ap has_ended is.top.runs

  -- ---- by whether the thread owns the monitor

  module _ (entered : Option ℕ) (has : HasEntered stack entered) (frames : ℕ) where
    abbrev stepped : SteppedOf (PartOf ℕ)
    stepped = instruction_event trees frames (event_of t) state.world frame rest meaning

    abbrev results : List ℕ
    results = option_to_list (result_in value stack)

    stepped_is : stepped ≡ leaving words trees t entered state.world (step.returned trees results rest) (model.Invocation frame ∷ rest)
    stepped_is =
        event_returns frames
        ∙ ap (λ o. leaving words trees t o state.world (step.returned trees results rest) (model.Invocation frame ∷ rest)) (entered_is trees p stack frame rest is.lent.shows_stack entered has)

    pub not_owner : SaysMayLeave false t entered shared.heap
        → Does trees p bounds inflated t state.world (model.Invocation frame
        ∷ rest) stepped (Ok (effect.Raises exception.IllegalMonitorState)) shared shared stack stack
    not_owner says = (
      stepped_is ∙ not_owned trees p bounds inflated state.world shared is.lent.represents t entered (step.returned trees results rest) (model.Invocation frame ∷ rest) says,
      record { shared = refl; stack = refl },
    )

    module _ (says : SaysMayLeave true t entered shared.heap) where
      goes : stepped ≡ on_to (with_leave state.world t entered) (step.returned trees results rest)
      goes = stepped_is ∙ goes_on trees p bounds inflated state.world shared is.lent.represents t entered (step.returned trees results rest) (model.Invocation frame ∷ rest) says

      -- there is no memory for the result
      pub lacks : (given : Option ℕ) → given ≡ result_in value stack → IsGiven stack given
          → (result : Result Effect EventRefusal) → IsErrAnd result (λ told. told ≡ refusal.Memory) → (to : List ShownEntry) → to ≡ stack
          → Does trees p bounds inflated t state.world (model.Invocation frame ∷ rest) stepped result shared shared stack to
      lacks given given_is g (Ok told) e to same = absurd e
      lacks given given_is g (Err told) e to same = (
        record { cost = Free; next = after; is = goes; may = subst (MayBeRefused trees bounds inflated state.world Free takes) (sym e) (takes_by_growth state.world (shown_counts stack) Free after grown) },
        record { shared = refl; stack = same },
      )
        where
          after : PartOf ℕ
          after = part (with_leave state.world t entered) (step.returned trees results rest)

          takes : Bool
          takes = takes_memory state.world (shown_counts stack) Free after

          grown : has_grown (shown_counts stack) (operand_counts after.stack) ≡ true
          grown =
              subst (λ o. has_grown (shown_counts stack) (operand_counts (step.returned trees (option_to_list o) rest)) ≡ true) (sym g.is ∙ given_is)
              (given_grows trees p stack is.shown is.others is.is_stack g.invoker g.others g.under rest (under_shown trees p stack (model.Invocation frame) rest is.lent.shows_stack) g.word)

      pub returns : (next : ℕ) → IsNextOfTop p (drop 1 stack) next → (new : Shared) → Leaves t entered shared new
          → (to : List ShownEntry) → to ≡ returned_to next results (drop 1 stack)
          → IsDone trees p bounds inflated state.world stepped shared new to
      returns next at new l to same =
          let under = under_shown trees p stack (model.Invocation frame) rest is.lent.shows_stack in
          subst (λ s. IsDone trees p bounds inflated state.world s shared new to) (sym stepped_is)
          (done trees p bounds inflated state.world shared is.lent.represents t entered (step.returned trees results rest) (model.Invocation frame ∷ rest) says new l to
          (subst (λ (st : List ShownEntry). ShowsStack trees p st (step.returned trees results rest)) (sym same)
          (return trees p (drop 1 stack) rest under next results (at trees is.program rest under rest_in_code))))

-- ---- of an invocation that entered no monitor

leaves_none : (t : ℕ) (shared : Shared) → Leaves t None shared shared
leaves_none t shared = record { represents = λ trees p bounds world r. r; flags = refl; rest = refl }

pub returns_alone : (p : LinkedProgram) (value : Bool) (stack : List ShownEntry) → HasEntered stack None → (next : ℕ)
    → IsNextOfTop p (drop 1 stack) next
    → (to : List ShownEntry) → to ≡ returned_to next (option_to_list (result_in value stack)) (drop 1 stack) → (t : ℕ) (shared : Shared)
    → DoesOwn p (returning value) t (Ok effect.Done) shared shared stack to
returns_alone p value stack has next at to same t shared = λ frames trees bounds inflated state frame rest code site meaning is.
    returns trees p bounds inflated t shared stack state frame rest code site meaning value is None has frames (λ world. refl) next at shared (leaves_none t shared) to same
