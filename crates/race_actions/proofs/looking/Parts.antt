-- What is known of the instruction of a frame before its event, and of the class on top of a stack.
use Rattle.std.proofs.Common.{◌≡◌, ℕ, zero, suc, ◌-◌, List, [], ◌∷◌, false, Option, Some, None, refl, sym, ap, subst, ◌∙◌, arith}
use Rattle.std.specs.Prelude.{slice_index_or, unwrap_or}
use Rattle.std.proofs.lemmas.Option.{same_Some, none-some}
use Rattle.model.specs.declared.instr.Instr.{Instr}
use Rattle.model.specs.Classes.{Program}
use Rattle.model.specs.Operands.{word_of, word_reference}
use Rattle.model.specs.Words.{map_frame, words_of}
use Rattle.run_laws.specs.soundness.Runs.{IsNoEventWrong}
use Rattle.run_laws.specs.word_operands.Receivers.{AreReceived}
use Rattle.linked_code.specs.declared.instruction.LinkedInstruction.{LinkedInstruction}
use Rattle.linked_code.specs.declared.program.LinkedProgram.{LinkedProgram}
use Rattle.linked_code.specs.Linked.{offset_in}
use Rattle.linked_code.specs.Numbers.{IsClassIf}
use Rattle.thread_stacks.specs.declared.entry.Phase.{Phase}
use Rattle.thread_stacks.specs.declared.entry.Top.TheVariants as top
use Rattle.thread_stacks.specs.Stacks.{ShownEntry, ShownFrame, Invocation, Initialisation, IsTopFrame, top_of}
use Rattle.machine_state.specs.declared.state.Shared.{Shared}
use Rattle.machine_state.specs.shown_stacks.Shown.{offset_at}
use Rattle.machine_state.specs.linked_frames.Frames.{IsInstruction, AreTopsShown}
use Rattle.thread_rules.specs.declared.next_rules.NextRule.{NextRule}
use Rattle.thread_rules.specs.declared.next_rules.NextRule.TheVariants as rule
use Rattle.next_accesses.specs.access_tables.Tables.{IsInstructionAt}
use Rattle.next_accesses.specs.read_operands.Reads.{AreOperandsRead}
use Rattle.next_accesses.proofs.next_access.Meant.{instr_is, numbered}
use Rattle.state_actions.specs.looked_classes.Looked.{LooksFor}
use Rattle.thread_calls.specs.thread_methods.Called.{TellsMethod}
use Rattle.race_actions.specs.declared.finds.Called.{Called}
use Rattle.race_actions.specs.declared.looking.Standing.{Standing}
use Rattle.race_actions.specs.finds.Finds.{IsReadyFor}
use Rattle.race_actions.specs.looking.Known.{LooksOnTop, KnowsCall, KnowsFrame, KnowsBy, InitialisesOnTop}

-- ---- the class that is looked for

module _ (p : LinkedProgram) (stack : List ShownEntry) where
  pub looked_on_top : (found : LinkedInstruction) (told : Option ℕ) → IsInstruction p stack (Some found) → LooksFor found told → LooksOnTop p stack told
  looked_on_top found told is looks trees bounds inflated t shared state frame rest code site meaning instruction running =
      let same : found ≡ instruction = same_Some found instruction (is trees bounds inflated t shared state frame rest code site meaning instruction running) in
      subst (λ (i : LinkedInstruction). LooksFor i told) same looks trees p (offset_in code.starts.items) code.instructions.items site running.shown.place meaning running.stands.linked running.stands.at.means

  pub none_on_top : (told : Option ℕ) → IsInstruction p stack None → LooksOnTop p stack told
  none_on_top told is trees bounds inflated t shared state frame rest code site meaning instruction running =
      absurd (none-some instruction (is trees bounds inflated t shared state frame rest code site meaning instruction running))

-- ---- what is called

-- the object of a word, 0 where that is null
object_is : (n : ℕ) → unwrap_or (word_reference n) 0 ≡ n - 1
object_is zero = refl
object_is (suc r) = omega arith

module _ (trees : Program) (p : LinkedProgram) (shared : Shared) (t : ℕ) (frame : ShownFrame) (i : Instr) (class : Option ℕ) where
  pub call_known : (told : Called) → IsReadyFor shared t class told.is_ready → TellsMethod trees p shared t frame i told.method
      → told.object ≡ slice_index_or frame.operands 0 0 - 1 → KnowsCall trees p shared t frame i class told
  call_known told ready tells on_top bounds state r stack at is same looks =
      let m = tells bounds state r stack at is same in
      record {
        ready = ready trees p bounds state.world at.instruction.meaning.looks (record { program = r.program; represents = r.shown.represents }) looks;
        method = m.method;
        object = λ b e on. ap (λ (o : Option ℕ). unwrap_or o 0) (m.receiver b e on) ∙ object_is (slice_index_or frame.operands 0 0) ∙ sym on_top;
      }

-- ---- in a frame

module _ (wrong : IsNoEventWrong) (receives : AreReceived) (reads : AreOperandsRead) (tops : AreTopsShown) (trees : Program) (p : LinkedProgram)
    (shared : Shared) (t : ℕ) (stack : List ShownEntry) (frame : ShownFrame) (offset : ℕ) (offset_is : offset ≡ offset_at p frame.method frame.place) where
  pub frame_known : (i : Instr) → IsInstructionAt trees frame.method offset (Some i) → (class : Option ℕ) → LooksOnTop p stack class → (called : Called)
      → KnowsCall trees p shared t frame i class called
      → KnowsFrame trees p shared t stack frame (record { site = record { method = frame.method; offset = offset }; instruction = Some i; class = class; called = called })
  frame_known i is class on_top called call bounds state r at top =
      let same : i ≡ at.instruction.site.instr =
      same_Some i at.instruction.site.instr (instr_is wrong receives reads tops trees p shared t frame bounds state r stack at top (Some i) offset offset_is is) in
      let looks : IsClassIf trees class at.instruction.meaning.looks =
      subst (IsClassIf trees class) at.looks
      (on_top trees bounds r.inflated t shared (words_of state) (map_frame word_of at.stands.frame) at.rest at.code at.instruction.site at.meaning at.linked at.runs) in
      let shows = (tops trees p bounds r.inflated t shared stack (words_of state) (map_frame word_of at.stands.frame) at.rest at.code at.instruction.site at.meaning at.linked at.runs).top in
      record {
        site = record {
          method = numbered wrong receives reads tops trees p shared t frame bounds state r stack at top;
          offset = offset_is ∙ ap (λ (f : ShownFrame). offset_at p f.method f.place) (sym top) ∙ sym shows.offset;
        };
        instruction = ap (λ (x : Instr). Some x) same;
        looks = looks;
        calls = call bounds state r stack at top (sym same) looks;
      }

  pub frame_unknown : IsInstructionAt trees frame.method offset None → (told : Standing) → KnowsFrame trees p shared t stack frame told
  frame_unknown is told bounds state r at top =
      absurd (none-some at.instruction.site.instr (instr_is wrong receives reads tops trees p shared t frame bounds state r stack at top None offset offset_is is))

-- ---- by the rule

module _ (trees : Program) (p : LinkedProgram) (shared : Shared) (t : ℕ) (stack : List ShownEntry) (r : NextRule) (told : Standing) where
  pub by_frame : r ≡ rule.Bytecode → (frame : ShownFrame) → IsTopFrame stack (Some frame) → KnowsFrame trees p shared t stack frame told → KnowsBy trees p shared t stack r told
  by_frame e frame top h =
      subst (λ (x : NextRule). KnowsBy trees p shared t stack x told) (sym e)
      (λ bounds state reached at.
      let is : Some frame ≡ Some at.runs.shown = subst (λ (l : List ShownEntry). IsTopFrame l (Some frame)) at.runs.is_stack top in
      h bounds state reached at (sym (same_Some frame at.runs.shown is)))

  pub by_none : r ≡ rule.Bytecode → IsTopFrame stack None → KnowsBy trees p shared t stack r told
  by_none e top =
      subst (λ (x : NextRule). KnowsBy trees p shared t stack x told) (sym e)
      (λ bounds state reached at.
      let is : None ≡ Some at.runs.shown = subst (λ (l : List ShownEntry). IsTopFrame l None) at.runs.is_stack top in
      absurd (none-some at.runs.shown is))

pub by_other : (trees : Program) (p : LinkedProgram) (shared : Shared) (t : ℕ) (stack : List ShownEntry) (r : NextRule) (told : Standing)
    → (r ≡ rule.Bytecode → ⊥) → told.called.is_ready ≡ false → KnowsBy trees p shared t stack r told
by_other trees p shared t stack rule.Bytecode told n e = absurd (n refl)
by_other trees p shared t stack _ told n e = e

-- ---- the class on top

pub initialises_top : (stack : List ShownEntry) (class : ℕ) (phase : Phase) → top.Initialisation class phase ≡ top_of stack → InitialisesOnTop stack (Some class)
initialises_top [] class phase e = absurd cc
initialises_top (Invocation frame ∷ stack) class phase e = absurd cc
initialises_top (Initialisation other at ∷ stack) class phase e = cc

pub empty_top : (stack : List ShownEntry) → top.Empty ≡ top_of stack → InitialisesOnTop stack None
empty_top [] e = refl
empty_top (Invocation frame ∷ stack) e = absurd cc
empty_top (Initialisation other at ∷ stack) e = absurd cc

pub invocation_top : (stack : List ShownEntry) → top.Invocation ≡ top_of stack → InitialisesOnTop stack None
invocation_top [] e = absurd cc
invocation_top (Invocation frame ∷ stack) e = refl
invocation_top (Initialisation other at ∷ stack) e = absurd cc
