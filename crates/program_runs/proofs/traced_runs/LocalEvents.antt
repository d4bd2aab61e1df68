-- A thread whose frame on top stands at a local instruction, which throws nothing, does a local event next.
use Rattle.std.proofs.Common.{◌≡◌, ◌⊎◌, inl, inr, ℕ, ◌+◌, ◌==◌, List, [], ◌∷◌, take, true, false, Option, Some, None, refl, sym, ap, subst, ◌∙◌}
use Rattle.std.specs.Prelude.{slice_get, slice_index_or, if◌then◌else◌, is_some, is_none}
use Rattle.std.specs.Option.{option_map, option_and_then}
use Rattle.std.proofs.lemmas.Option.{same_Some, slice_get-map}
use Rattle.model.specs.declared.event.Event.{Event}
use Rattle.model.specs.declared.value.Value.{Value}
use Rattle.model.specs.Classes.{Program, Body, body_of}
use Rattle.model.specs.LimitStands.{Bounds, bounds_of, inflated}
use Rattle.model.specs.Operands.{Slots, operands, over_values, over_words, word_of}
use Rattle.model.specs.declared.instr.Arithmetic.{Arithmetic}
use Rattle.model.specs.declared.instr.Arithmetic.TheVariants.{Divide, Remainder}
use Rattle.model.specs.Frames.{at_offset}
use Rattle.model.specs.Ints.{cannot_compute}
use Rattle.model.specs.Rows.{Null, Row, after_row, compute_row, constant_row, first, plain, row_target, row_wants}
use Rattle.model.specs.Sites.{MeaningOf, Site, site_at}
use Rattle.model.specs.State as model
use Rattle.model.specs.State.{Frame, FrameOf, Running, StackOf, State, StateOf, Thread, ThreadStatus}
use Rattle.model.specs.Words.{map_frame, map_stack, words_of}
use Rattle.model.specs.Worlds.{no_thread, thread_at}
use Rattle.run_laws.specs.interleavings.Local.{after_local, frame_row, is_going, is_local, local_stack, operand_words, row_at}
use Rattle.run_laws.specs.word_operands.Operands.{IsOnTop}
use Rattle.run_laws.proofs.laws.WordLists.{operands_words}
use Rattle.heap.specs.java_threads.Table.{thread_at as row_of_thread}
use Rattle.linked_code.specs.declared.instruction.LinkedInstruction.{LinkedInstruction}
use Rattle.linked_code.specs.declared.instruction.LinkedInstruction.TheVariants as linked
use Rattle.linked_code.specs.declared.method.LinkedCode.{LinkedCode}
use Rattle.linked_code.specs.declared.program.LinkedProgram.{LinkedProgram}
use Rattle.linked_code.specs.Linked.{IsLinked, offset_in}
use Rattle.thread_stacks.specs.Stacks.{ShownFrame, ShownEntry, Invocation, Initialisation, IsTopFrame}
use Rattle.machine_state.specs.shown_stacks.Shown.{ShowsStack}
use Rattle.machine_state.specs.declared.state.Shared.{Shared}
use Rattle.machine_state.specs.Shown.{IsLent}
use Rattle.machine_state.specs.linked_frames.Frames.{AreFramesStanding, IsInstruction, IsRunning}
use Rattle.machine_state.proofs.linked_frames.Frames.{slots_are, top_frame}
use Rattle.machine_state.specs.state_events.Whole.{AreStacksLent}
use Rattle.machine_state.proofs.state_events.Places.{set_same}
use Rattle.machine_instructions.specs.local_instructions.Local as instructions
use Rattle.machine.specs.Machines.{MachineOf}
use Rattle.machine.specs.schedule_runs.Done.{HasDone}
use Rattle.machine.specs.top_frames.Tops.{GoesOn}
use Rattle.program_runs.specs.traced_runs.Locals.{IsNextLocal, StandsAtLocal, divides_by_zero}

-- ---- the row of a local instruction

-- the first of two operands is the one on top
first_operand : (operands : List ℕ) → first (take 2 operands) ≡ slice_index_or operands 0 0
first_operand [] = refl
first_operand (b ∷ []) = refl
first_operand (b ∷ a ∷ rest) = refl

-- where its row fails, it divides by the operand on top, and that is 0
abbrev FailsBy : LinkedInstruction → Row → Type 0
FailsBy i row = (slots : Slots ℕ) → divides_by_zero i (slice_index_or slots.stack 0 0) ≡ false → row.fails (operands over_words (row_wants row) slots) ≡ false

divides : (op : Arithmetic) (next : ℕ) (row : Row) → row ≡ compute_row op next → (cannot_compute op ≡ λ b. b == 0) → (slots : Slots ℕ) → (slice_index_or slots.stack 0 0 == 0) ≡ false
    → row.fails (operands over_words (row_wants row) slots) ≡ false
divides op next row is by slots not_zero =
    ap (λ (r : Row). r.fails (operands over_words (row_wants r) slots)) is
    ∙ ap (λ f. f (first (take 2 slots.stack))) by
    ∙ ap (λ b. b == 0) (first_operand slots.stack)
    ∙ not_zero

local_row_of : (trees : Program) (p : LinkedProgram) (at : ℕ → ℕ) (code : List LinkedInstruction) (site : Site) (k : ℕ) (i : LinkedInstruction) → instructions.is_local i ≡ true → IsLinked trees p at code site k i
    → (row : Row) × (row_at site ≡ Some row) × FailsBy i row
local_row_of trees p at code site k (linked.GetField slot) e l = absurd cc
local_row_of trees p at code site k (linked.PutField slot) e l = absurd cc
local_row_of trees p at code site k (linked.PutBooleanField slot) e l = absurd cc
local_row_of trees p at code site k (linked.PutByteField slot) e l = absurd cc
local_row_of trees p at code site k (linked.PutCharField slot) e l = absurd cc
local_row_of trees p at code site k (linked.PutShortField slot) e l = absurd cc
local_row_of trees p at code site k (linked.GetStatic class slot) e l = absurd cc
local_row_of trees p at code site k (linked.PutStatic class slot) e l = absurd cc
local_row_of trees p at code site k (linked.PutBooleanStatic class slot) e l = absurd cc
local_row_of trees p at code site k (linked.PutByteStatic class slot) e l = absurd cc
local_row_of trees p at code site k (linked.PutCharStatic class slot) e l = absurd cc
local_row_of trees p at code site k (linked.PutShortStatic class slot) e l = absurd cc
local_row_of trees p at code site k (linked.GetSystemStream word) e l = absurd cc
local_row_of trees p at code site k linked.LoadElement e l = absurd cc
local_row_of trees p at code site k linked.StoreInt e l = absurd cc
local_row_of trees p at code site k linked.StoreNarrow e l = absurd cc
local_row_of trees p at code site k linked.StoreReference e l = absurd cc
local_row_of trees p at code site k linked.ArrayLength e l = absurd cc
local_row_of trees p at code site k (linked.LoadObject word) e l = absurd cc
local_row_of trees p at code site k (linked.New class cells uncounted) e l = absurd cc
local_row_of trees p at code site k (linked.NewArray of) e l = absurd cc
local_row_of trees p at code site k (linked.NewReferenceArray number) e l = absurd cc
local_row_of trees p at code site k (linked.CheckCast type) e l = absurd cc
local_row_of trees p at code site k (linked.InstanceOf type) e l = absurd cc
local_row_of trees p at code site k linked.Throw e l = absurd cc
local_row_of trees p at code site k linked.MonitorEnter e l = absurd cc
local_row_of trees p at code site k linked.MonitorExit e l = absurd cc
local_row_of trees p at code site k (linked.InvokeStatic parameters class method) e l = absurd cc
local_row_of trees p at code site k (linked.InvokeSpecial parameters method) e l = absurd cc
local_row_of trees p at code site k (linked.InvokeVirtual parameters place) e l = absurd cc
local_row_of trees p at code site k (linked.InvokeInterface parameters selector) e l = absurd cc
local_row_of trees p at code site k linked.Println e l = absurd cc
local_row_of trees p at code site k linked.Return e l = absurd cc
local_row_of trees p at code site k linked.ReturnValue e l = absurd cc
local_row_of trees p at code site k (linked.Bound high) e l = absurd cc
local_row_of trees p at code site k (linked.Match key) e l = absurd cc
local_row_of trees p at code site k (linked.Jump to) e l = absurd cc
local_row_of trees p at code site k (linked.Const bits) e l = (l.row, l.is, λ slots d. constant l.same)
  where
    constant : {ops : List ℕ} → (l.row ≡ constant_row (at (k + 1)) bits) ⊎ ((bits ≡ 0) × (l.row ≡ plain [] [] (Null ∷ []) [] (at (k + 1)))) → l.row.fails ops ≡ false
    constant {ops} (inl same) = ap (λ (r : Row). r.fails ops) same
    constant {ops} (inr same) = ap (λ (r : Row). r.fails ops) same.1
local_row_of trees p at code site k (linked.Load local) e l = (l.row, l.is, λ slots d. ap (λ (r : Row). r.fails (operands over_words (row_wants l.row) slots)) l.same.1)
local_row_of trees p at code site k (linked.Store local) e l = (l.row, l.is, λ slots d. ap (λ (r : Row). r.fails (operands over_words (row_wants l.row) slots)) l.same.1)
local_row_of trees p at code site k (linked.TableSwitch low) e l = (l.row, l.is, λ slots d. ap (λ (r : Row). r.fails (operands over_words (row_wants l.row) slots)) l.same.is)
local_row_of trees p at code site k (linked.LookupSwitch pairs) e l = (l.row, l.is, λ slots d. ap (λ (r : Row). r.fails (operands over_words (row_wants l.row) slots)) l.same.is)
local_row_of trees p at code site k linked.Divide e l = (l.row, l.is, λ slots d. divides Divide (at (k + 1)) l.row l.same refl slots d)
local_row_of trees p at code site k linked.Remainder e l = (l.row, l.is, λ slots d. divides Remainder (at (k + 1)) l.row l.same refl slots d)
local_row_of trees p at code site k i e l = (l.row, l.is, λ slots d. ap (λ (r : Row). r.fails (operands over_words (row_wants l.row) slots)) l.same)

-- ---- a frame at one

module _ (trees : Program) (frame : Frame) (rest : StackOf Value) (row : Row) (row_is : frame_row trees frame ≡ Some row) (fails_not : row.fails (operand_words frame row) ≡ false) where
  abbrev after : Frame
  after = at_offset frame (row_target row (operand_words frame row)) (after_row over_values row frame.place.slots)

  goes : after_local frame row ≡ Some after
  goes = ap (λ b. if b then None else Some after) fails_not

  stack_after : local_stack trees (model.Invocation frame ∷ rest) ≡ Some (model.Invocation after ∷ rest)
  stack_after =
      ap (λ (o : Option Row). option_map (λ (f : Frame). model.Invocation f ∷ rest) (option_and_then (after_local frame) o)) row_is
      ∙ ap (option_map (λ (f : Frame). model.Invocation f ∷ rest)) goes

  pub next_is_local : (state : State) (t : ℕ) → slice_get state.stacks t ≡ Some (model.Invocation frame ∷ rest)
      → (thread_at state.world t).status ≡ Running → (thread_at state.world t).pending ≡ None → is_local trees state t ≡ true
  next_is_local state t at runs pending =
      ap (λ (s : ThreadStatus). is_some (if is_going s (thread_at state.world t).pending then option_and_then (local_stack trees) (slice_get state.stacks t) else None)) runs
      ∙ ap (λ (o : Option ℕ). is_some (if is_none o then option_and_then (local_stack trees) (slice_get state.stacks t) else None)) pending
      ∙ ap (λ (o : Option (StackOf Value)). is_some (option_and_then (local_stack trees) o)) at
      ∙ ap is_some stack_after

-- ---- words and values

record OfValues (state : State) (t : ℕ) (frame : FrameOf ℕ) : Type 0 where
  own : Frame
  others : StackOf Value
  at : slice_get state.stacks t ≡ Some (model.Invocation own ∷ others)
  frame_is : frame ≡ map_frame word_of own

of_values : (state : State) (t : ℕ) (frame : FrameOf ℕ) (rest : StackOf ℕ) → slice_get (words_of state).stacks t ≡ Some (model.Invocation frame ∷ rest) → OfValues state t frame
of_values state t frame rest is = by (slice_get state.stacks t) refl (sym (slice_get-map (map_stack word_of) state.stacks t) ∙ is)
  where
    by : (o : Option (StackOf Value)) → slice_get state.stacks t ≡ o → option_map (map_stack word_of) o ≡ Some (model.Invocation frame ∷ rest) → OfValues state t frame
    by None at e = absurd cc
    by (Some []) at e = absurd cc
    by (Some (model.Initialisation class phase ∷ others)) at e = absurd cc
    by (Some (model.Invocation own ∷ others)) at e =
        let same : Some (model.Invocation (map_frame word_of own) ∷ map_stack word_of others) ≡ Some (model.Invocation frame ∷ rest) = e in
        record { own = own; others = others; at = at; frame_is = sym (on_top same) }
      where
        on_top : Some (model.Invocation (map_frame word_of own) ∷ map_stack word_of others) ≡ Some (model.Invocation frame ∷ rest) → map_frame word_of own ≡ frame
        on_top e = cc

-- ---- a thread of a machine

module _ (trees : Program) (p : LinkedProgram) (bounds : Bounds) (inflated : List ℕ) (t : ℕ) (shared : Shared) (stack : List ShownEntry) (words_at : StateOf ℕ) (frame : FrameOf ℕ) (rest : StackOf ℕ) (code : LinkedCode)
    (site : Site) (meaning : MeaningOf ℕ) (instruction : LinkedInstruction) (is : IsRunning trees p bounds inflated t shared stack words_at frame rest code site meaning instruction) (stands : StandsAtLocal p stack) where
  shown_is : stands.shown ≡ is.shown
  shown_is = same_Some stands.shown is.shown (top_frame trees p bounds inflated t shared stack words_at frame rest code site meaning instruction is (Some stands.shown) stands.on_top)

  instruction_is : stands.instruction ≡ instruction
  instruction_is = same_Some stands.instruction instruction (stands.is trees bounds inflated t shared words_at frame rest code site meaning instruction is)

  row_there : (row : Row) × (row_at site ≡ Some row) × FailsBy instruction row
  row_there =
      local_row_of trees p (offset_in code.starts.items) code.instructions.items site is.shown.place instruction (ap instructions.is_local (sym instruction_is) ∙ stands.local) is.stands.linked

  not_by_zero : divides_by_zero instruction (slice_index_or frame.place.slots.stack 0 0) ≡ false
  not_by_zero =
      let slots : frame.place.slots ≡ record { locals = is.shown.locals; stack = is.shown.operands } = slots_are trees p bounds inflated t shared stack words_at frame rest code site meaning instruction is in
      ap (λ (s : Slots ℕ). divides_by_zero instruction (slice_index_or s.stack 0 0)) slots
      ∙ ap (λ (f : ShownFrame). divides_by_zero instruction (slice_index_or f.operands 0 0)) (sym shown_is)
      ∙ ap (λ (i : LinkedInstruction). divides_by_zero i (slice_index_or stands.shown.operands 0 0)) (sym instruction_is)
      ∙ stands.divides

  row_of_frame : (own : Frame) → frame ≡ map_frame word_of own → frame_row trees own ≡ Some row_there.0
  row_of_frame own same =
      ap (λ (f : FrameOf ℕ). option_and_then (λ (b : Body). option_and_then row_at (site_at f.method b f.place.offset)) (body_of trees f.method)) (sym same)
      ∙ ap (option_and_then (λ (b : Body). option_and_then row_at (site_at frame.method b frame.place.offset))) is.stands.at.is_body
      ∙ ap (option_and_then row_at) is.stands.at.stands
      ∙ row_there.1

  fails_never : (own : Frame) → frame ≡ map_frame word_of own → row_there.0.fails (operand_words own row_there.0) ≡ false
  fails_never own same =
      ap row_there.0.fails (sym (operands_words (row_wants row_there.0) own.place.slots) ∙ ap (λ (f : FrameOf ℕ). operands over_words (row_wants row_there.0) f.place.slots) (sym same))
      ∙ row_there.2 frame.place.slots not_by_zero

  pub is_local_there : (state : State) → words_at ≡ words_of state → is_local trees state t ≡ true
  is_local_there state are =
      let world_is : words_at.world.threads ≡ state.world.threads = ap (λ (s : StateOf ℕ). s.world.threads) are in
      let thread_is : thread_at words_at.world t ≡ thread_at state.world t = ap (λ (threads : List Thread). slice_index_or threads t no_thread) world_is in
      let found : OfValues state t frame = of_values state t frame rest (ap (λ (s : StateOf ℕ). slice_get s.stacks t) (sym are) ∙ is.lent.is_own) in
      next_is_local trees found.own found.others row_there.0 (row_of_frame found.own found.frame_is) (fails_never found.own found.frame_is) state t found.at
      (ap (λ (thread : Thread). thread.status) (sym thread_is) ∙ is.top.runs) (ap (λ (thread : Thread). thread.pending) (sym thread_is) ∙ is.top.pending)

module _ (lend : AreStacksLent) (stand : AreFramesStanding) (m : MachineOf) (t : ℕ) (stack : List ShownEntry) (at : slice_get m.shared.stacks.items t ≡ Some stack) (goes_on : GoesOn m.shared.threads.threads t)
    (stands : StandsAtLocal m.program stack) where
  module _ (files : List (List ℕ)) (trees : Program) (done : List Event) (has : HasDone m files trees done) where
    on_top : (frame : FrameOf ℕ) (rest : StackOf ℕ) → IsLent trees m.program (bounds_of m.limits) (inflated trees (bounds_of m.limits).frames done) t m.shared stack has.run.at (model.Invocation frame ∷ rest) → IsOnTop has.run.at t frame
    on_top frame rest lent =
        let row_is : row_of_thread m.shared.threads.threads t ≡ thread_at has.run.at.world t = ap (λ (threads : List Thread). row_of_thread threads t) lent.represents.world_is.threads in
        record {
          rest = rest;
          stack = lent.is_own;
          runs = sym (ap (λ (thread : Thread). thread.status) row_is) ∙ goes_on.0;
          pending = sym (ap (λ (thread : Thread). thread.pending) row_is) ∙ goes_on.1;
        }

    by_own : (own : StackOf ℕ) → IsLent trees m.program (bounds_of m.limits) (inflated trees (bounds_of m.limits).frames done) t m.shared stack has.run.at own → (entries : List ShownEntry) → stack ≡ entries
        → is_local trees has.run.lead.state t ≡ true
    by_own own lent [] e = let none : IsTopFrame [] (Some stands.shown) = subst (λ s. IsTopFrame s (Some stands.shown)) e stands.on_top in absurd cc
    by_own own lent (Initialisation class phase ∷ others) e =
        let none : IsTopFrame (Initialisation class phase ∷ others) (Some stands.shown) = subst (λ s. IsTopFrame s (Some stands.shown)) e stands.on_top in absurd cc
    by_own [] lent (Invocation other ∷ others) e = absurd (subst (λ s. ShowsStack trees m.program s []) e lent.shows_stack)
    by_own (model.Initialisation class phase ∷ rest) lent (Invocation other ∷ others) e =
        absurd (subst (λ s. ShowsStack trees m.program s (model.Initialisation class phase ∷ rest)) e lent.shows_stack).0
    by_own (model.Invocation frame ∷ rest) lent (Invocation other ∷ others) e =
        let s = stand trees m.program has.program (bounds_of m.limits) (inflated trees (bounds_of m.limits).frames done) t m.shared stack has.run.at frame rest lent (on_top frame rest lent) in
        is_local_there trees m.program (bounds_of m.limits) (inflated trees (bounds_of m.limits).frames done) t m.shared stack has.run.at frame rest s.code s.site s.meaning s.instruction s.is stands has.run.lead.state
        has.run.lead.are.are

  pub next_local_by : IsNextLocal m t
  next_local_by files trees done has =
      let own = lend trees m.program (bounds_of m.limits) (inflated trees (bounds_of m.limits).frames done) m.shared has.run.at has.run.shown t stack at stack m.shared
      (record { rest = refl; stacks = sym (set_same m.shared.stacks.items t stack at) }) in
      by_own files trees done has own.own own.lends stack refl

-- ---- what is found of a stack

pub stands_local : (p : LinkedProgram) (stack : List ShownEntry) (found : Option ShownFrame) (shown : ShownFrame) (at : Option LinkedInstruction) (instruction : LinkedInstruction)
    → IsTopFrame stack found → found ≡ Some shown → IsInstruction p stack at → at ≡ Some instruction → instructions.is_local instruction ≡ true
    → divides_by_zero instruction (slice_index_or shown.operands 0 0) ≡ false → StandsAtLocal p stack
stands_local p stack found shown at instruction top found_is is at_is local divides =
    record {
      shown = shown;
      on_top = subst (λ (o : Option ShownFrame). IsTopFrame stack o) found_is top;
      instruction = instruction;
      is = subst (λ (o : Option LinkedInstruction). IsInstruction p stack o) at_is is;
      local = local;
      divides = divides;
    }
