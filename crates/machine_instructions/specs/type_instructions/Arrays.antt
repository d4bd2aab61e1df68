-- Instructions that make arrays (JVMS 6.5 newarray, anewarray).
use Rattle.std.specs.Prelude.{◌≡◌, ℕ, ◌+◌, List, ◌∷◌, Some, Result, replicate}
use Rattle.model.specs.Classes.{Program}
use Rattle.model.specs.LimitStands.{Bounds}
use Rattle.model.specs.ReferenceTypes.{ReferenceType}
use Rattle.model.specs.Operands.{words}
use Rattle.model.specs.Arrays.{array_meaning}
use Rattle.model.specs.Sites.{MeaningOf, Site}
use Rattle.model.specs.Meanings.{meaning_of}
use Rattle.model.specs.State as model
use Rattle.model.specs.State.{ObjectOf, FrameOf, StackOf, StateOf}
use Rattle.model.specs.Worlds.{cells_of}
use Rattle.heap.specs.declared.kind.NarrowKind.TheVariants as narrow
use Rattle.heap.specs.declared.kind.ObjectKind.{ObjectKind}
use Rattle.heap.specs.declared.kind.ObjectKind.TheVariants as kind
use Rattle.heap.specs.Heap.{fresh}
use Rattle.model.specs.declared.primitive.Primitive.{Primitive}
use Rattle.model.specs.declared.primitive.Primitive.TheVariants as linked
use Rattle.linked_code.specs.declared.instruction.LinkedInstruction.{LinkedInstruction}
use Rattle.linked_code.specs.declared.method.LinkedCode.{LinkedCode}
use Rattle.linked_code.specs.declared.program.LinkedProgram.{LinkedProgram}
use Rattle.linked_code.specs.Linked.{offset_in}
use Rattle.machine_state.specs.shown_objects.Shown.{ShowsObject}
use Rattle.thread_stacks.specs.Stacks.{ShownEntry}
use Rattle.machine_state.specs.declared.answers.Effect.{Effect}
use Rattle.machine_state.specs.declared.refusals.EventRefusal.{EventRefusal}
use Rattle.machine_state.specs.declared.state.Shared.{Shared}
use Rattle.machine_state.specs.Instructions.{Does, instruction_event}
use Rattle.machine_state.specs.linked_frames.Frames.{IsRunning, event_of}

-- the kind of the arrays of a primitive type
abbrev pub kind_of_array : Primitive → ObjectKind
kind_of_array linked.Boolean = kind.Narrow narrow.Boolean
kind_of_array linked.Char = kind.Narrow narrow.Char
kind_of_array linked.Byte = kind.Narrow narrow.Byte
kind_of_array linked.Short = kind.Narrow narrow.Short
kind_of_array linked.Int = kind.Ints

-- what is shown is the array of zeros that is made, of however many, each of which is a cell
abbrev pub AreArrays : Program → LinkedProgram → ObjectKind → (List ℕ → ObjectOf ℕ) → Type 0
AreArrays trees p kind array =
    (count : ℕ) → ShowsObject trees p.components.items (fresh kind count) (array (replicate count 0)) × (count ≡ cells_of (array (replicate count 0)))

-- in whatever state a thread runs at an instruction that makes such an array, the result says what becomes of the event by it
abbrev pub MakesArray : LinkedProgram → ObjectKind → (t : ℕ) → Result Effect EventRefusal → (old new : Shared) (from to : List ShownEntry)
    → Type 0
MakesArray p kind t result old new from to =
    (frames : ℕ) (trees : Program) (bounds : Bounds) (inflated : List ℕ) (state : StateOf ℕ) (frame : FrameOf ℕ) (rest : StackOf ℕ) (code : LinkedCode) (site : Site) (meaning : MeaningOf ℕ) (instruction : LinkedInstruction)
    (is : IsRunning trees p bounds inflated t old from state frame rest code site meaning instruction)
    → (type : ReferenceType) (array : List ℕ → ObjectOf ℕ)
    → meaning_of words trees site ≡ Some (array_meaning words trees site type array 0)
    → site.next ≡ offset_in code.starts.items (is.shown.place + 1) → AreArrays trees p kind array
    → Does trees p bounds inflated t state.world (model.Invocation frame
    ∷ rest) (instruction_event trees frames (event_of t) state.world frame rest meaning) result old new from to
