-- An instruction that goes on to a place of its code (JVMS 2.6): what the stack and the event are then.
use Rattle.std.specs.Prelude.{◌≡◌, ℕ, List, ◌∷◌, length}
use Rattle.model.specs.Classes.{Program}
use Rattle.model.specs.Frames.{at_offset}
use Rattle.model.specs.LimitStands.{Bounds}
use Rattle.model.specs.Operands.{Slots}
use Rattle.model.specs.Outcomes.{Free}
use Rattle.model.specs.Sites.{MeaningOf, Site}
use Rattle.model.specs.State as model
use Rattle.model.specs.State.{FrameOf, StackOf, WorldOf, StateOf}
use Rattle.model.specs.Step.{Next, part}
use Rattle.linked_code.specs.declared.instruction.LinkedInstruction.{LinkedInstruction}
use Rattle.linked_code.specs.declared.method.LinkedCode.{LinkedCode}
use Rattle.linked_code.specs.declared.program.LinkedProgram.{LinkedProgram}
use Rattle.linked_code.specs.Linked.{offset_in}
use Rattle.thread_stacks.specs.Stacks.{ShownFrame, ShownEntry, Invocation}
use Rattle.machine_state.specs.shown_stacks.Shown.{ShowsStack}
use Rattle.machine_state.specs.declared.state.Shared.{Shared}
use Rattle.machine_state.specs.Shown.{Represents}
use Rattle.machine_state.specs.Events.{IsDone}
use Rattle.machine_state.specs.linked_frames.Frames.{IsRunning}

-- a frame at a place, with these local variables and operands
abbrev pub shown_at : ShownFrame → (place : ℕ) → Slots ℕ → ShownFrame
shown_at shown place slots = record shown { place = place; locals = slots.locals; operands = slots.stack }

-- it shows the frame at the offset of the place
abbrev pub AreMovesShown : Type 0
AreMovesShown =
    (trees : Program) (p : LinkedProgram) (bounds : Bounds) (inflated : List ℕ) (t : ℕ) (shared : Shared) (stack : List ShownEntry) (state : StateOf ℕ) (frame : FrameOf ℕ) (rest : StackOf ℕ) (code : LinkedCode) (site : Site) (meaning : MeaningOf ℕ) (instruction : LinkedInstruction)
    → (is : IsRunning trees p bounds inflated t shared stack state frame rest code site meaning instruction)
    → (place : ℕ) (slots : Slots ℕ)
    → ShowsStack trees p (Invocation (shown_at is.shown place slots)
    ∷ is.others) (model.Invocation (at_offset frame (offset_in code.starts.items place) slots) ∷ rest)

-- An event that takes nothing, in a world that is shown after it: no limit stands, and where no other lock is fat and no thread
-- is new, it is done.
abbrev pub AreFreeDone : Type 0
AreFreeDone =
    (trees : Program) (p : LinkedProgram) (bounds : Bounds) (inflated : List ℕ) (world after : WorldOf ℕ) (own : model.StackOf ℕ) (old new : Shared) (to : List ShownEntry)
    → Represents trees p bounds new after → ShowsStack trees p to own
    → new.heap.locks.fat ≡ old.heap.locks.fat → new.stacks ≡ old.stacks → length new.threads.threads ≡ length old.threads.threads
    → IsDone trees p bounds inflated world (Next Free (part after own)) old new to
