-- A frame that an exception ends (JVMS 2.10), in whatever world is shown.
use Rattle.std.specs.Prelude.{ℕ, List, ◌∷◌, Result}
use Rattle.model.specs.Classes.{Program}
use Rattle.model.specs.State.{FrameOf, Invocation, StackOf, WorldOf}
use Rattle.model.specs.LimitStands.{Bounds}
use Rattle.model.specs.Operands.{words}
use Rattle.model.specs.Step.{leaving}
use Rattle.linked_code.specs.declared.program.LinkedProgram.{LinkedProgram}
use Rattle.thread_stacks.specs.Stacks.{ShownEntry}
use Rattle.machine_state.specs.shown_stacks.Shown.{ShowsStack}
use Rattle.machine_state.specs.declared.answers.Answer.{Answer}
use Rattle.machine_state.specs.declared.refusals.EventRefusal.{EventRefusal}
use Rattle.machine_state.specs.declared.state.Shared.{Shared}
use Rattle.machine_state.specs.Shown.{Represents}
use Rattle.machine_state.specs.Events.{Becomes}

abbrev pub Unwinds : Result Answer EventRefusal → (t : ℕ) → (old new : Shared) (from to : List ShownEntry) → Type 0
Unwinds result t old new from to =
    (trees : Program) (p : LinkedProgram) (bounds : Bounds) (inflated : List ℕ) (world : WorldOf ℕ) → Represents trees p bounds old world
    → (frame : FrameOf ℕ) (rest : StackOf ℕ) → ShowsStack trees p from (Invocation frame ∷ rest)
    → Becomes trees p bounds inflated world (leaving words trees t frame.entered world rest rest) result old new from to
