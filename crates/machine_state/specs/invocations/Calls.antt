-- What a new frame is of the step of a thread (JVMS 2.5.2, 2.6.4, 2.11.10), in whatever world is shown.
use Rattle.std.specs.Prelude.{ℕ, List, ◌∷◌, Result, take, drop, reverse}
use Rattle.model.specs.Names.{Member}
use Rattle.model.specs.Classes.{Program, Body}
use Rattle.model.specs.Operands.{words}
use Rattle.model.specs.State.{FrameOf, Invocation, StackOf, WorldOf}
use Rattle.model.specs.LimitStands.{Bounds}
use Rattle.model.specs.Frames.{frame_with, at_call}
use Rattle.model.specs.Step.{pushed}
use Rattle.linked_code.specs.declared.program.LinkedProgram.{LinkedProgram}
use Rattle.thread_stacks.specs.declared.entry.Callee.{Callee}
use Rattle.thread_stacks.specs.Stacks.{ShownEntry}
use Rattle.machine_state.specs.shown_stacks.Shown.{ShowsStack, IsCallee}
use Rattle.machine_state.specs.declared.answers.Effect.{Effect}
use Rattle.machine_state.specs.declared.refusals.EventRefusal.{EventRefusal}
use Rattle.machine_state.specs.declared.state.Shared.{Shared}
use Rattle.machine_state.specs.Instructions.{Does}
use Rattle.machine_state.specs.entries.Entered.{IsShared}

-- the frame on top calls a method, and so many of its operands are the arguments
abbrev pub DoesCall : Result Effect EventRefusal → (t : ℕ) → Callee → (count frames : ℕ) → (old new : Shared) (from to : List ShownEntry)
    → Type 0
DoesCall result t callee count frames old new from to =
    (trees : Program) (p : LinkedProgram) (bounds : Bounds) (inflated : List ℕ) (world : WorldOf ℕ) → IsShared trees p bounds inflated old world
    → (frame : FrameOf ℕ) (rest : StackOf ℕ) → ShowsStack trees p from (Invocation frame ∷ rest)
    → (method : Member) (body : Body) → IsCallee trees p callee method body
    → Does trees p bounds inflated t world (Invocation frame ∷ rest)
    (pushed words trees frames t world world (Invocation frame ∷ rest) (Invocation (at_call frame (drop count frame.place.slots.stack)) ∷ rest)
    (frame_with words method (reverse (take count frame.place.slots.stack)) callee.entered body))
    result old new from to

-- a method is called with these arguments, over whatever stands on the stack
abbrev pub DoesFirstCall : Result Effect EventRefusal → (t : ℕ) → Callee → (arguments : List ℕ) (frames : ℕ) → (old new : Shared)
    (from to : List ShownEntry) → Type 0
DoesFirstCall result t callee arguments frames old new from to =
    (trees : Program) (p : LinkedProgram) (bounds : Bounds) (inflated : List ℕ) (world : WorldOf ℕ) → IsShared trees p bounds inflated old world
    → (own : StackOf ℕ) → ShowsStack trees p from own
    → (method : Member) (body : Body) → IsCallee trees p callee method body
    → Does trees p bounds inflated t world own
    (pushed words trees frames t world world own own (frame_with words method arguments callee.entered body)) result old new from to
