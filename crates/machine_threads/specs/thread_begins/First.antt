-- The first frame of a thread (JVMS 2.5.2, 5.2; JLS 17), in whatever world is shown.
use Rattle.std.specs.Prelude.{ℕ, List, [], ◌∷◌, true, Result}
use Rattle.model.specs.Names.{Member}
use Rattle.model.specs.Classes.{Program, Body}
use Rattle.model.specs.Operands.{words}
use Rattle.model.specs.State.{WorldOf}
use Rattle.model.specs.LimitStands.{Bounds}
use Rattle.model.specs.Frames.{frame_with}
use Rattle.model.specs.Worlds.{with_begun}
use Rattle.model.specs.Step.{pushed}
use Rattle.heap.specs.java_threads.Table.{thread_at, with_thread}
use Rattle.linked_code.specs.declared.program.LinkedProgram.{LinkedProgram}
use Rattle.thread_stacks.specs.declared.entry.Callee.{Callee}
use Rattle.thread_stacks.specs.Stacks.{ShownEntry}
use Rattle.machine_state.specs.shown_stacks.Shown.{ShowsStack, IsCallee}
use Rattle.machine_state.specs.declared.answers.Effect.{Effect}
use Rattle.machine_state.specs.declared.answers.Effect.TheVariants as effect
use Rattle.machine_state.specs.declared.refusals.EventRefusal.{EventRefusal}
use Rattle.machine_state.specs.declared.state.Shared.{Shared}
use Rattle.machine_state.specs.Instructions.{Does}
use Rattle.machine_state.specs.entries.Entered.{IsShared}

-- the thread has begun, if its call is done
abbrev pub begun_by : Effect → (t : ℕ) → Shared → Shared
begun_by effect.Done t shared = record shared { threads = with_thread shared.threads t (record (thread_at shared.threads.threads t) { begun = true }) }
begun_by told t shared = shared

-- a method is called with one argument, in each world that is shown, and over the empty stack of the thread
abbrev pub PushesFirst : Result Effect EventRefusal → (t : ℕ) → Callee → (argument frames : ℕ) → (old new : Shared) (from to : List ShownEntry)
    → Type 0
PushesFirst result t callee argument frames old new from to =
    (trees : Program) (p : LinkedProgram) (bounds : Bounds) (inflated : List ℕ) (world : WorldOf ℕ) → IsShared trees p bounds inflated old world
    → ShowsStack trees p from []
    → (method : Member) (body : Body) → IsCallee trees p callee method body
    → Does trees p bounds inflated t world [] (pushed words trees frames t world (with_begun world t) [] [] (frame_with words method (argument
    ∷ []) callee.entered body)) result old new from to
