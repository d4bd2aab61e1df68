-- The method `run` of a Thread object (JVMS 6.5 invokevirtual, JLS 17.1).
use Rattle.std.specs.Prelude.{◌≡◌, ℕ, List, [], Option, Some, None, Result, slice_index_or}
use Rattle.std.specs.Option.{option_and_then}
use Rattle.model.specs.Names.{Member, java_lang_thread, thread_run}
use Rattle.model.specs.Classes.{Program, body_of}
use Rattle.model.specs.Lookup.{select}
use Rattle.model.specs.State.{ObjectOf, StateOf}
use Rattle.model.specs.LimitStands.{Bounds}
use Rattle.model.specs.Operands.{words}
use Rattle.model.specs.Step.{run_event, thread_at}
use Rattle.model.specs.Calls.{if_concrete}
use Rattle.model.specs.Worlds.{no_object, class_of_object}
use Rattle.heap.specs.Heap.{Object}
use Rattle.linked_code.specs.declared.program.LinkedProgram.{LinkedProgram}
use Rattle.machine_state.specs.shown_objects.Shown.{ShowsObjects}
use Rattle.run_laws.specs.typed_threads.Objects.{IsInstance}
use Rattle.thread_stacks.specs.declared.entry.Callee.{Callee}
use Rattle.thread_stacks.specs.Stacks.{ShownEntry}
use Rattle.machine_state.specs.declared.answers.Effect.{Effect}
use Rattle.machine_state.specs.declared.refusals.EventRefusal.{EventRefusal}
use Rattle.machine_state.specs.declared.state.Shared.{Shared}
use Rattle.machine_state.specs.Shown.{IsProgram, IsLent}
use Rattle.machine_state.specs.Instructions.{Does}
use Rattle.machine_threads.specs.thread_begins.Callees.{IsFirstCallee}
use Rattle.machine_state.specs.method_selection.Selected.{IsChosenBy}

-- whatever objects are shown, the number is that of the method that is run, or of an abstract one where an AbstractMethodError is raised
abbrev pub SelectsRun : LinkedProgram → List Object → (object : ℕ) → Option ℕ → Type 0
SelectsRun p objects object found =
    (trees : Program) → IsProgram trees p → (heap : List (ObjectOf ℕ)) → ShowsObjects trees p.components.items objects heap
    → IsInstance trees heap java_lang_thread object
    → IsChosenBy trees found (if_concrete trees (select trees (class_of_object (slice_index_or heap object no_object)) thread_run))

-- the method that is selected, if it has code
abbrev pub IsRunOf : Program → LinkedProgram → Option Member → (object : ℕ) → Option Callee → Type 0
IsRunOf trees p selected object None = option_and_then (body_of trees) selected ≡ None
IsRunOf trees p selected object (Some callee) = (method : Member) × (selected ≡ Some method) × IsFirstCallee trees p method object callee

abbrev pub FindsRun : LinkedProgram → List Object → (object : ℕ) → Option Callee → Type 0
FindsRun p objects object found =
    (trees : Program) → IsProgram trees p → (heap : List (ObjectOf ℕ)) → ShowsObjects trees p.components.items objects heap
    → IsInstance trees heap java_lang_thread object
    → IsRunOf trees p (select trees (class_of_object (slice_index_or heap object no_object)) thread_run) object found

-- ---- the event

-- a thread with an empty stack, which is lent, in some state of some files: what a function that begins it may ask of its caller
pub record CanBegin (p : LinkedProgram) (t : ℕ) (shared : Shared) (stack : List ShownEntry) : Type 0 where
  pub trees : Program
  pub bounds : Bounds
  pub inflated : List ℕ
  pub state : StateOf ℕ
  pub program : IsProgram trees p
  pub lent : IsLent trees p bounds inflated t shared stack state []

-- a started thread calls run of its Thread object, in whatever state it is
abbrev pub BeginsRun : LinkedProgram → Result Effect EventRefusal → (t frames : ℕ) → (old new : Shared) (from to : List ShownEntry) → Type 0
BeginsRun p result t frames old new from to =
    (trees : Program) (bounds : Bounds) (inflated : List ℕ) (state : StateOf ℕ) → IsProgram trees p → IsLent trees p bounds inflated t old from state []
    → Does trees p bounds inflated t state.world [] (run_event words trees frames t state.world (thread_at state.world t).object) result
    old new from to
