-- The steps of a thread that initialises a class (JVMS 5.5, steps 7 to 12).
use Rattle.std.specs.Prelude.{◌≡◌, ◌<◌, ◌^◌, ℕ, length, List, [], ◌∷◌, Option, Some, None, Bool, Result}
use Rattle.model.specs.Names.{Name, Member, initialiser_of}
use Rattle.model.specs.Classes.{Program, Body, body_of}
use Rattle.model.specs.Frames.{frame_with}
use Rattle.model.specs.Operands.{words}
use Rattle.model.specs.State.{StackOf, WorldOf, Phase, Erroneous}
use Rattle.model.specs.State as model
use Rattle.model.specs.LimitStands.{Bounds}
use Rattle.model.specs.ClassInitialisation.{with_class_status}
use Rattle.model.specs.Step.{before, failed, initialisation_event, initialiser_event, pushed}
use Rattle.linked_code.specs.declared.program.LinkedProgram.{LinkedProgram}
use Rattle.linked_code.specs.Numbers.{IsClassAt, IsClassIf, IsMethodAt}
use Rattle.linked_code.specs.ClassRows.{IsInitialiser}
use Rattle.thread_stacks.specs.declared.entry.Phase.{Phase as LinkedPhase}
use Rattle.thread_stacks.specs.declared.entry.Callee.{Callee}
use Rattle.thread_stacks.specs.Stacks.{ShownEntry}
use Rattle.machine_state.specs.shown_stacks.Shown.{ShowsStack, IsCallee, phase_of}
use Rattle.machine_state.specs.declared.answers.Answer.{Answer}
use Rattle.machine_state.specs.declared.refusals.EventRefusal.{EventRefusal}
use Rattle.machine_state.specs.declared.state.Shared.{Shared}
use Rattle.machine_state.specs.Shown.{IsProgram, Represents}
use Rattle.machine_state.specs.Events.{Becomes}
use Rattle.machine_state.specs.entries.Entered.{IsShared}

-- an exception comes to the class on top, by its number: it is erroneous (steps 11 and 12)
abbrev pub Fails : Result Answer EventRefusal → (t number exception : ℕ) → (is_error : Bool) → (old new : Shared) (from to : List ShownEntry) → Type 0
Fails result t number exception is_error old new from to =
    (trees : Program) (p : LinkedProgram) (bounds : Bounds) (inflated : List ℕ) (world : WorldOf ℕ) → IsProgram trees p → Represents trees p bounds old world
    → (length old.heap.objects < 2 ^ 32 → exception < length old.heap.objects)
    → (class : Name) (phase : Phase) (rest : StackOf ℕ) → IsClassAt trees number class
    → ShowsStack trees p from (model.Initialisation class phase ∷ rest)
    → Becomes trees p bounds inflated world (failed words trees t exception is_error (with_class_status world class Erroneous) rest) result old new from to

-- ---- what comes next of a class

-- the superclass of a class comes before it; an interface has none to wait for (step 7)
abbrev pub IsBefore : LinkedProgram → (number : ℕ) → Option ℕ → Type 0
IsBefore p number found =
    (trees : Program) → IsProgram trees p → (class : Name) → IsClassAt trees number class → IsClassIf trees found (before trees class)

-- the number of the class's own initialiser
abbrev pub IsInitialiserAt : LinkedProgram → (number : ℕ) → Option ℕ → Type 0
IsInitialiserAt p number found =
    (trees : Program) → IsProgram trees p → (class : Name) → IsClassAt trees number class → IsInitialiser trees class found

-- a method with code, as its call needs it
abbrev pub IsCalleeOf : Program → LinkedProgram → Member → Body → Option Callee → Type 0
IsCalleeOf trees p method body None = ⊥
IsCalleeOf trees p method body (Some callee) = IsCallee trees p callee method body

abbrev pub IsCalleeAt : LinkedProgram → (number : ℕ) → Option Callee → Type 0
IsCalleeAt p number found =
    (trees : Program) → IsProgram trees p → (method : Member) (body : Body) → IsMethodAt trees number method → body_of trees method ≡ Some body
    → IsCalleeOf trees p method body found

-- the initialiser of a class, if the class declares one
abbrev pub IsInitialiserOf : Program → LinkedProgram → Name → Option Callee → Type 0
IsInitialiserOf trees p class None = body_of trees (initialiser_of class) ≡ None
IsInitialiserOf trees p class (Some callee) =
    (body : Body) × (body_of trees (initialiser_of class) ≡ Some body) × IsCallee trees p callee (initialiser_of class) body

abbrev pub IsInitialiserBy : LinkedProgram → (number : ℕ) → Option Callee → Type 0
IsInitialiserBy p number found =
    (trees : Program) → IsProgram trees p → (class : Name) → IsClassAt trees number class → IsInitialiserOf trees p class found

-- ---- its steps, in each world that is shown

-- a method is called with no arguments, over whatever stands on the stack
abbrev pub Calls : LinkedProgram → Result Answer EventRefusal → (t : ℕ) → Callee → (frames : ℕ) → (old new : Shared) (from to : List ShownEntry) → Type 0
Calls p result t callee frames old new from to =
    (trees : Program) (bounds : Bounds) (inflated : List ℕ) (world : WorldOf ℕ) → IsProgram trees p → IsShared trees p bounds inflated old world
    → (own : StackOf ℕ) → ShowsStack trees p from own
    → (method : Member) (body : Body) → IsCallee trees p callee method body
    → Becomes trees p bounds inflated world (pushed words trees frames t world world own own (frame_with words method [] callee.entered body)) result
    old new from to

-- so over the class on top, which is done after that
abbrev pub CallsOver : LinkedProgram → Result Answer EventRefusal → (t : ℕ) → Callee → (frames : ℕ) → (old new : Shared) (from to : List ShownEntry) → Type 0
CallsOver p result t callee frames old new from to =
    (trees : Program) (bounds : Bounds) (inflated : List ℕ) (world : WorldOf ℕ) → IsProgram trees p → IsShared trees p bounds inflated old world
    → (class : Name) (rest : StackOf ℕ) → ShowsStack trees p from (model.Initialisation class model.Super ∷ rest)
    → (method : Member) (body : Body) → IsCallee trees p callee method body
    → Becomes trees p bounds inflated world
    (pushed words trees frames t world world (model.Initialisation class model.End ∷ rest) (model.Initialisation class model.End ∷ rest) (frame_with words method [] callee.entered body))
    result old new from to

-- the class's own initialiser is called, if it declares one (step 9)
abbrev pub RunsInitialiser : LinkedProgram → Result Answer EventRefusal → (t number frames : ℕ) → (old new : Shared) (from to : List ShownEntry)
    → Type 0
RunsInitialiser p result t number frames old new from to =
    (trees : Program) (bounds : Bounds) (inflated : List ℕ) (world : WorldOf ℕ) → IsProgram trees p → IsShared trees p bounds inflated old world
    → (class : Name) (rest : StackOf ℕ) → IsClassAt trees number class
    → ShowsStack trees p from (model.Initialisation class model.Super ∷ rest)
    → Becomes trees p bounds inflated world
    (initialiser_event words trees frames t (initialiser_of class) world (model.Initialisation class model.End ∷ rest) (body_of trees (initialiser_of class)))
    result old new from to

-- the event of a thread with the class on top, by its number and its phase
abbrev pub Initialises : LinkedProgram → Result Answer EventRefusal → (t number : ℕ) → LinkedPhase → (frames : ℕ) → (old new : Shared)
    (from to : List ShownEntry) → Type 0
Initialises p result t number phase frames old new from to =
    (trees : Program) (bounds : Bounds) (inflated : List ℕ) (world : WorldOf ℕ) → IsProgram trees p → IsShared trees p bounds inflated old world
    → (class : Name) (rest : StackOf ℕ) → IsClassAt trees number class
    → ShowsStack trees p from (model.Initialisation class (phase_of phase) ∷ rest)
    → Becomes trees p bounds inflated world (initialisation_event words trees frames t class (phase_of phase) world rest) result old new
    from to
