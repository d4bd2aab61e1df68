-- What the rule of a thread is in the definitions, where a machine shows the state.
use Rattle.std.specs.Prelude.{◌≡◌, ℕ, List, Some, slice_get}
use Rattle.model.specs.Names.{Name}
use Rattle.model.specs.Classes.{Program}
use Rattle.model.specs.LimitStands.{Bounds}
use Rattle.model.specs.Operands.{word_of}
use Rattle.model.specs.Sites.{MeaningOf}
use Rattle.model.specs.State.{StackOf, State}
use Rattle.model.specs.Words.{map_frame, words_of}
use Rattle.heap.specs.java_threads.Statuses.{cause_of}
use Rattle.heap.specs.java_threads.Table.{thread_at}
use Rattle.linked_code.specs.declared.instruction.LinkedInstruction.{LinkedInstruction}
use Rattle.linked_code.specs.declared.method.LinkedCode.{LinkedCode}
use Rattle.linked_code.specs.declared.program.LinkedProgram.{LinkedProgram}
use Rattle.linked_code.specs.Numbers.{IsClassAt}
use Rattle.thread_stacks.specs.Stacks.{ShownEntry}
use Rattle.machine_state.specs.declared.state.Shared.{Shared}
use Rattle.machine_state.specs.Shown.{IsProgram}
use Rattle.machine_state.specs.shown_stacks.Shown.{phase_of}
use Rattle.machine_state.specs.linked_frames.Frames.{IsRunning}
use Rattle.machine_state.specs.state_events.Whole.{IsShown}
use Rattle.data_races.specs.EventActions.{Instruction, Begins, Does, Initialises, Relocks, Other, rule_of}
use Rattle.event_laws.specs.access_outcomes.Accesses.{StandsAt}
use Rattle.thread_rules.specs.declared.next_rules.NextRule.{NextRule}
use Rattle.thread_rules.specs.declared.next_rules.NextRule.TheVariants as rule
use Rattle.thread_rules.specs.next_rules.Rules.{IsRule}

-- a thread stands at an instruction, over values, and at the linked instruction of its place, over words
pub record IsAtInstruction (trees : Program) (p : LinkedProgram) (bounds : Bounds) (inflated : List ℕ) (t : ℕ) (shared : Shared)
    (stack : List ShownEntry) (state : State) : Type 0 where
  pub instruction : Instruction
  pub is_rule : rule_of trees state t ≡ Does instruction
  pub stands : StandsAt trees state t instruction
  pub rest : StackOf ℕ
  pub code : LinkedCode
  pub meaning : MeaningOf ℕ
  pub linked : LinkedInstruction
  pub runs : IsRunning trees p bounds inflated t shared stack (words_of state) (map_frame word_of stands.frame) rest code instruction.site meaning linked
  pub looks : meaning.looks ≡ instruction.meaning.looks
  pub wants : meaning.wants ≡ instruction.meaning.wants

abbrev pub MeansRule : Program → LinkedProgram → Bounds → List ℕ → (t : ℕ) → Shared → List ShownEntry → State → NextRule → Type 0
MeansRule trees p bounds inflated t shared stack state rule.NoEvent = rule_of trees state t ≡ Other
MeansRule trees p bounds inflated t shared stack state (rule.Pending exception) = rule_of trees state t ≡ Other
MeansRule trees p bounds inflated t shared stack state (rule.Relock object count why) = rule_of trees state t ≡ Relocks (cause_of why)
MeansRule trees p bounds inflated t shared stack state rule.Begin = rule_of trees state t ≡ Begins
MeansRule trees p bounds inflated t shared stack state (rule.Initialisation number phase) =
    (class : Name) × IsClassAt trees number class × (rule_of trees state t ≡ Initialises class (phase_of phase))
MeansRule trees p bounds inflated t shared stack state rule.Bytecode = IsAtInstruction trees p bounds inflated t shared stack state

-- in each state that is shown, of a thread with its stack
abbrev pub AreRulesMeant : Type 0
AreRulesMeant =
    (trees : Program) (p : LinkedProgram) (bounds : Bounds) (inflated : List ℕ) (shared : Shared) (state : State) → IsProgram trees p
    → IsShown trees p bounds inflated shared (words_of state) → (t : ℕ) (stack : List ShownEntry) → slice_get shared.stacks.items t ≡ Some stack
    → (told : NextRule) → IsRule (thread_at shared.threads.threads t) stack told → MeansRule trees p bounds inflated t shared stack state told
