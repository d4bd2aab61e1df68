-- What an event finds of threads, and whom it interrupts (JLS 17.4.2, 17.4.4), by what a machine tells.
use Rattle.std.specs.Prelude.{◌≡◌, ℕ, Option, Some, None, Bool, true, false, map}
use Rattle.std.specs.Option.{option_and_then}
use Rattle.model.specs.declared.event.Event.{Event}
use Rattle.model.specs.Names.{Name}
use Rattle.model.specs.Classes.{Program}
use Rattle.model.specs.LimitStands.{Bounds}
use Rattle.model.specs.State.{World}
use Rattle.model.specs.ClassInitialisation.{look_at}
use Rattle.model.specs.BuiltInMethods.{BuiltInMethod, ObjectWait, ThreadStart, ThreadInterrupt, ThreadIsInterrupted, ThreadInterrupted, ThreadJoin, ThreadIsAlive}
use Rattle.heap.specs.java_threads.Statuses.{cause_of}
use Rattle.linked_code.specs.declared.program.LinkedProgram.{LinkedProgram}
use Rattle.linked_code.specs.Numbers.{IsClassIf}
use Rattle.machine_state.specs.declared.state.Shared.{Shared}
use Rattle.machine_state.specs.shown_stacks.Shown.{phase_of}
use Rattle.race_places.specs.declared.run_actions.Action.{Action}
use Rattle.race_places.specs.named_actions.Names.{Names, named_action}
use Rattle.data_races.specs.EventActions.{Instruction, Rule, Begins, Does, Initialises, Relocks, Other, is_ready, is_done, built_in_at, receiver_of, finds_of, interrupts_of}
use Rattle.table_actions.specs.tables.Told.{AreOf, listed, all_found}
use Rattle.table_actions.specs.declared.findings.Findings.{Findings}
use Rattle.state_actions.specs.class_ends.Classes.{Shows}
use Rattle.thread_rules.specs.declared.next_rules.NextRule.{NextRule}
use Rattle.thread_rules.specs.declared.next_rules.NextRule.TheVariants as rule
use Rattle.thread_calls.specs.declared.thread_methods.ThreadMethod.{ThreadMethod}
use Rattle.thread_calls.specs.declared.thread_methods.ThreadMethod.TheVariants as method
use Rattle.thread_calls.specs.thread_methods.Called.{as_thread_method, is_on_receiver}
use Rattle.race_actions.specs.declared.finds.Called.{Called}

-- the class that is looked for is there, in whatever world is shown
abbrev pub IsReadyFor : Shared → (t : ℕ) → (number : Option ℕ) → Bool → Type 0
IsReadyFor shared t number told =
    (trees : Program) (p : LinkedProgram) (bounds : Bounds) (world : World) (looks : Option Name) → Shows trees p bounds shared world → IsClassIf trees number looks
    → told ≡ is_ready (look_at t world looks)

-- the built-in method that it is
abbrev pub built_in_method : ThreadMethod → BuiltInMethod
built_in_method method.Wait = ObjectWait
built_in_method method.Start = ThreadStart
built_in_method method.Interrupt = ThreadInterrupt
built_in_method method.IsInterrupted = ThreadIsInterrupted
built_in_method method.Interrupted = ThreadInterrupted
built_in_method method.Join = ThreadJoin
built_in_method method.IsAlive = ThreadIsAlive

-- what is known of an instruction is right
pub record IsCalled (files : Program) (t : ℕ) (world : World) (instruction : Instruction) (called : Called) : Type 0 where
  pub ready : called.is_ready ≡ is_done t world instruction
  pub method : called.method ≡ option_and_then as_thread_method (built_in_at files world instruction)
  pub object : (m : ThreadMethod) → called.method ≡ Some m → is_on_receiver m ≡ true → receiver_of instruction ≡ called.object

-- the rule that is told is the one of the definitions
abbrev pub IsRuleOf : NextRule → Rule → Type 0
IsRuleOf rule.NoEvent meant = meant ≡ Other
IsRuleOf (rule.Pending exception) meant = meant ≡ Other
IsRuleOf (rule.Relock object count why) meant = meant ≡ Relocks (cause_of why)
IsRuleOf rule.Begin meant = meant ≡ Begins
IsRuleOf (rule.Initialisation number phase) meant = (class : Name) × (meant ≡ Initialises class (phase_of phase))
IsRuleOf rule.Bytecode meant = (instruction : Instruction) × (meant ≡ Does instruction)

-- by whatever names, these are the actions that an event finds by such a rule; by an instruction it finds none here
abbrev pub FindsByRule : NextRule → (t : ℕ) → Option Action → Type 0
FindsByRule rule.Bytecode t told = told ≡ None
FindsByRule told_rule t told =
    (names : Names) (files : Program) (event : Event) (world : World) (meant : Rule) → event.thread ≡ t → IsRuleOf told_rule meant
    → map (named_action names) (listed told) ≡ finds_of files event world meant

abbrev pub FindsByCall : Shared → (t : ℕ) → Called → Findings → Type 0
FindsByCall shared t called told =
    (names : Names) (files : Program) (event : Event) (world : World) (instruction : Instruction) → event.thread ≡ t → AreOf shared.heap shared.threads world
    → IsCalled files t world instruction called → map (named_action names) (all_found told) ≡ finds_of files event world (Does instruction)

abbrev pub TellsFinds : Shared → (t : ℕ) → NextRule → Called → Findings → Type 0
TellsFinds shared t rule.Bytecode called told = FindsByCall shared t called told
TellsFinds shared t told_rule called told =
    (names : Names) (files : Program) (event : Event) (world : World) (meant : Rule) → event.thread ≡ t → IsRuleOf told_rule meant
    → map (named_action names) (all_found told) ≡ finds_of files event world meant

-- whom an instruction interrupts
abbrev pub InterruptsNamed : Shared → Called → Option Action → Type 0
InterruptsNamed shared called told =
    (names : Names) (files : Program) (event : Event) (world : World) (instruction : Instruction) → AreOf shared.heap shared.threads world
    → IsCalled files event.thread world instruction called → map (named_action names) (listed told) ≡ interrupts_of files event world (Does instruction)

-- nobody, where its class isn't there
abbrev pub TellsInterrupt : Shared → Called → Option Action → Type 0
TellsInterrupt shared called told = (called.is_ready ≡ false → told ≡ None) × InterruptsNamed shared called told
