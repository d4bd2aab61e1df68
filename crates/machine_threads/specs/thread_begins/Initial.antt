-- The method `main` of the initial class (JVMS 5.2, 5.5).
use Rattle.std.specs.Prelude.{ℕ, List, [], ◌∷◌, Result}
use Rattle.model.specs.Names.{Member, main_of}
use Rattle.model.specs.Classes.{Program, Body, body_of}
use Rattle.model.specs.Frames.{frame_with}
use Rattle.model.specs.LimitStands.{Bounds}
use Rattle.model.specs.Opening.{arguments_reference}
use Rattle.model.specs.Operands.{words}
use Rattle.model.specs.State.{WorldOf, StateOf}
use Rattle.model.specs.Worlds.{with_begun}
use Rattle.model.specs.Step.{initial_class, main_frame, main_event, pushed}
use Rattle.linked_code.specs.declared.program.LinkedProgram.{LinkedProgram}
use Rattle.linked_code.specs.Numbers.{IsClassAt}
use Rattle.thread_stacks.specs.declared.entry.Callee.{Callee}
use Rattle.thread_stacks.specs.Stacks.{ShownEntry}
use Rattle.machine_state.specs.shown_stacks.Shown.{ShowsStack, IsCallee}
use Rattle.machine_state.specs.declared.answers.Answer.{Answer}
use Rattle.machine_state.specs.declared.refusals.EventRefusal.{EventRefusal}
use Rattle.machine_state.specs.declared.state.Shared.{Shared}
use Rattle.machine_state.specs.Shown.{IsProgram, IsLent}
use Rattle.machine_state.specs.Events.{Becomes}
use Rattle.machine_state.specs.entries.Entered.{IsShared}

-- it is linked from some files
abbrev pub IsOfProgram : LinkedProgram → Type 0
IsOfProgram p = (trees : Program) × IsProgram trees p

-- the number of the class of the first file, whatever the files
abbrev pub IsInitialClass : LinkedProgram → (number : ℕ) → Type 0
IsInitialClass p number = (trees : Program) → IsProgram trees p → IsClassAt trees number (initial_class trees)

-- ---- the call, in each world that is shown, over the empty stack of the main thread

-- a method gets the empty array, and the thread has begun
abbrev pub CallsFirst : LinkedProgram → Result Answer EventRefusal → Callee → (frames : ℕ) → (old new : Shared) (from to : List ShownEntry) → Type 0
CallsFirst p result callee frames old new from to =
    (trees : Program) (bounds : Bounds) (inflated : List ℕ) (world : WorldOf ℕ) → IsProgram trees p → IsShared trees p bounds inflated old world
    → ShowsStack trees p from []
    → (method : Member) (body : Body) → IsCallee trees p callee method body
    → Becomes trees p bounds inflated world
    (pushed words trees frames 0 world (with_begun world 0) [] [] (frame_with words method (words.reference arguments_reference ∷ []) callee.entered body))
    result old new from to

-- so main, whose class is ready
abbrev pub CallsMain : LinkedProgram → Result Answer EventRefusal → (frames : ℕ) → (old new : Shared) (from to : List ShownEntry) → Type 0
CallsMain p result frames old new from to =
    (trees : Program) (bounds : Bounds) (inflated : List ℕ) (state : StateOf ℕ) → IsProgram trees p → IsLent trees p bounds inflated 0 old from state []
    → Becomes trees p bounds inflated state.world
    (main_frame words trees frames state.world (main_of (initial_class trees)) (body_of trees (main_of (initial_class trees))))
    result old new from to

-- ---- the event

-- the main thread calls main by the rules of invokestatic, in whatever state it is
abbrev pub BeginsMain : LinkedProgram → Result Answer EventRefusal → (frames : ℕ) → (old new : Shared) (from to : List ShownEntry) → Type 0
BeginsMain p result frames old new from to =
    (trees : Program) (bounds : Bounds) (inflated : List ℕ) (state : StateOf ℕ) → IsProgram trees p → IsLent trees p bounds inflated 0 old from state []
    → Becomes trees p bounds inflated state.world (main_event words trees frames state.world) result old new from to
