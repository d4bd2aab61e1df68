-- What becomes of an event by what its instruction came to (JVMS 2.10, 6.5 athrow; JLS 17.2.3).
use Rattle.std.specs.Prelude.{ℕ, List, Result, Ok}
use Rattle.model.specs.Classes.{Program}
use Rattle.model.specs.State.{StackOf, WorldOf}
use Rattle.model.specs.LimitStands.{Bounds}
use Rattle.model.specs.Worlds.{with_pending}
use Rattle.model.specs.Step.{SteppedOf, PartOf, on_to}
use Rattle.linked_code.specs.declared.program.LinkedProgram.{LinkedProgram}
use Rattle.thread_stacks.specs.Stacks.{ShownEntry}
use Rattle.machine_state.specs.shown_stacks.Shown.{ShowsStack}
use Rattle.machine_state.specs.declared.answers.Answer.{Answer}
use Rattle.machine_state.specs.declared.answers.Effect.{Effect}
use Rattle.machine_state.specs.declared.answers.MachineException.{MachineException}
use Rattle.machine_state.specs.declared.answers.MachineException.TheVariants as exception
use Rattle.machine_state.specs.declared.refusals.EventRefusal.{EventRefusal}
use Rattle.machine_state.specs.declared.state.Shared.{Shared}
use Rattle.machine_state.specs.Shown.{IsProgram, Represents}
use Rattle.machine_state.specs.Instructions.{Does}
use Rattle.machine_state.specs.Events.{IsDone, Becomes}

-- the word of the message of an exception that an instruction raises, by the program
abbrev pub message_of : LinkedProgram → MachineException → ℕ
message_of p exception.Arithmetic = p.division_text
message_of p _ = 0

-- it is pending, in each world that is shown, over each stack of the thread
abbrev pub IsThrown : (exception t : ℕ) → Shared → Shared → Type 0
IsThrown exception t old new =
    (trees : Program) (p : LinkedProgram) (bounds : Bounds) (inflated : List ℕ) (world : WorldOf ℕ) → Represents trees p bounds old world
    → (shown : List ShownEntry) (own : StackOf ℕ) → ShowsStack trees p shown own
    → IsDone trees p bounds inflated world (on_to (with_pending world t exception) own) old new shown

-- whatever becomes of the event of which an instruction answered the effect
abbrev pub Applies : LinkedProgram → Result Answer EventRefusal → Effect → (t : ℕ) → Shared → Shared → Type 0
Applies p result effect t between new =
    (trees : Program) (bounds : Bounds) (inflated : List ℕ) (world : WorldOf ℕ) (old : Shared) → IsProgram trees p → Represents trees p bounds old world
    → (from : List ShownEntry) (own : StackOf ℕ) → ShowsStack trees p from own
    → (stepped : SteppedOf (PartOf ℕ)) (to : List ShownEntry)
    → Does trees p bounds inflated t world own stepped (Ok effect) old between from to
    → Becomes trees p bounds inflated world stepped result old new from to
