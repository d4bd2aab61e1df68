-- A new String that a call answers (own).
use Rattle.std.specs.Prelude.{◌<◌, ℕ, List, [], ◌∷◌, Result, drop, length, take}
use Rattle.model.specs.Classes.{Program}
use Rattle.model.specs.LimitStands.{Bounds}
use Rattle.model.specs.Operands.{words}
use Rattle.model.specs.Outcomes.{OutcomeOf, Makes}
use Rattle.model.specs.Sites.{pushing_at}
use Rattle.model.specs.State as model
use Rattle.model.specs.State.{Characters, FrameOf, StackOf, StateOf, WorldOf}
use Rattle.model.specs.Step.{become}
use Rattle.model.specs.Texts.{Text}
use Rattle.model.specs.Worlds.{allocated}
use Rattle.linked_code.specs.declared.method.BuiltInMethod.{BuiltInMethod}
use Rattle.linked_code.specs.declared.program.LinkedProgram.{LinkedProgram}
use Rattle.thread_stacks.specs.Stacks.{ShownEntry}
use Rattle.machine_state.specs.declared.answers.Effect.{Effect}
use Rattle.machine_state.specs.declared.refusals.EventRefusal.{EventRefusal}
use Rattle.machine_state.specs.declared.state.Shared.{Shared}
use Rattle.machine_state.specs.Instructions.{Does}
use Rattle.machine_state.specs.shown_objects.Shown.{AreUnits}
use Rattle.machine_instructions.specs.thread_methods.Called.{IsCalling}

-- it is one object, and its units are cells
abbrev pub composes : WorldOf ℕ → FrameOf ℕ → Text → (count offset : ℕ) → OutcomeOf ℕ
composes world frame text count offset =
    pushing_at (Makes (length text)) offset (words.reference (length world.heap) ∷ []) (allocated world (Characters text)) frame.place.slots (drop count frame.place.slots.stack)

-- whatever method with operands a thread calls, the result says what becomes of an event that makes the String
abbrev pub GivesText : Text → (count next : ℕ) → Result Effect EventRefusal → (old new : Shared) (from to : List ShownEntry) → Type 0
GivesText text count next result old new from to =
    (trees : Program) (p : LinkedProgram) (bounds : Bounds) (inflated : List ℕ) (t : ℕ) (state : StateOf ℕ) (frame : FrameOf ℕ) (rest : StackOf ℕ) (called : BuiltInMethod) (offset : ℕ)
    → IsCalling trees p bounds inflated t old from state frame rest called count next offset
    → AreUnits text → 0 < length (take count frame.place.slots.stack) → (frames : ℕ)
    → Does trees p bounds inflated t state.world (model.Invocation frame ∷ rest)
    (become words trees frames t state.world frame rest (composes state.world frame text count offset)) result old new from to
