-- The class that must be initialised before the event of a thread, by its number (JVMS 5.2, 5.5).
use Rattle.std.specs.Prelude.{◌≡◌, ℕ, Option, Some}
use Rattle.model.specs.Names.{Name}
use Rattle.model.specs.Classes.{Program}
use Rattle.model.specs.State.{WakeCause}
use Rattle.model.specs.Step.{initial_class}
use Rattle.linked_code.specs.declared.program.LinkedProgram.{LinkedProgram}
use Rattle.linked_code.specs.Numbers.{IsClassAt, IsClassIf}
use Rattle.thread_stacks.specs.declared.entry.Phase.{Phase}
use Rattle.machine_state.specs.Shown.{IsProgram}
use Rattle.machine_state.specs.shown_stacks.Shown.{phase_of}
use Rattle.data_races.specs.EventActions.{Instruction, Rule, Begins, Does, Initialises, Relocks, Other, needed_at_begin, needed_before, needed_class}
use Rattle.thread_rules.specs.declared.next_rules.NextRule.{NextRule}
use Rattle.thread_rules.specs.declared.next_rules.NextRule.TheVariants as rule

-- the class of the first file, whatever the files
abbrev pub IsFirstClass : LinkedProgram → Option ℕ → Type 0
IsFirstClass p number = (trees : Program) → IsProgram trees p → IsClassIf trees number (Some (initial_class trees))

abbrev pub NeedsAtBegin : LinkedProgram → (t : ℕ) → Option ℕ → Type 0
NeedsAtBegin p t number = (trees : Program) → IsProgram trees p → IsClassIf trees number (needed_at_begin trees t)

-- in a phase of the initialisation of the class of a number
abbrev pub NeedsInPhase : LinkedProgram → (class : ℕ) → Phase → Option ℕ → Type 0
NeedsInPhase p class phase number =
    (trees : Program) → IsProgram trees p → (name : Name) → IsClassAt trees class name → IsClassIf trees number (needed_before trees name (phase_of phase))

-- ---- by the rule

-- the rule that is told is the one of the definitions; an instruction needs the class of a number, if that is one
abbrev pub IsToldOf : Program → (by_instruction : Option ℕ) → NextRule → Rule → Type 0
IsToldOf trees by_instruction rule.NoEvent meant = meant ≡ Other
IsToldOf trees by_instruction (rule.Pending exception) meant = meant ≡ Other
IsToldOf trees by_instruction (rule.Relock object count why) meant = (cause : WakeCause) × (meant ≡ Relocks cause)
IsToldOf trees by_instruction rule.Begin meant = meant ≡ Begins
IsToldOf trees by_instruction (rule.Initialisation number phase) meant =
    (class : Name) × IsClassAt trees number class × (meant ≡ Initialises class (phase_of phase))
IsToldOf trees by_instruction rule.Bytecode meant =
    (instruction : Instruction) × (meant ≡ Does instruction) × IsClassIf trees by_instruction instruction.meaning.looks

abbrev pub NeedsBy : LinkedProgram → NextRule → (t : ℕ) → (by_instruction number : Option ℕ) → Type 0
NeedsBy p told t by_instruction number =
    (trees : Program) → IsProgram trees p → (meant : Rule) → IsToldOf trees by_instruction told meant → IsClassIf trees number (needed_class trees t meant)
