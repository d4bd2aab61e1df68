-- What an event of a thread may do to the world, and what an instruction's outcome has to keep.
use Rattle.std.proofs.Common.{◌≡◌, ℕ, List, [], true, false, ◌==◌, Some, None, length}
use Rattle.std.specs.Prelude.{slice_get}
use Rattle.std.specs.List.{list_all}
use Rattle.model.specs.Names.{java_lang_object, java_lang_thread, java_lang_throwable}
use Rattle.model.specs.Classes.{Program}
use Rattle.model.specs.ReferenceTypes.{ReferenceType}
use Rattle.model.specs.State.{types_of, WakeCause, ThreadStatus, Running, Waiting, Relock, Thread, Frame, World}
use Rattle.model.specs.Outcomes.{OutcomeOf, Goes, Raises, Throws, Interrupts, Calls, Returns, Waits}
use Rattle.model.specs.declared.value.Value.{Value}
use Rattle.model.specs.Operands.{values}
use Rattle.model.specs.Opening.{opening_heap}
use Rattle.model.specs.Frames.{at_offset, at_call}
use Rattle.model.specs.Calls.{result_types}
use Rattle.model.specs.WellTyped.{is_object_in, is_field_typed, are_typed, are_wait_sets, Ready, Awaits}
use Rattle.run_laws.proofs.laws.Order.{Extends}
use Rattle.run_laws.proofs.typed_runs.Objects.{HeapTyped}

-- ---- worlds

-- what is well typed of a world, stacks aside; and the objects of the opening state are there
pub record Fits (files : Program) (world : World) : Type 0 where
  pub heap : HeapTyped files world.heap
  pub statics : list_all (is_field_typed files (types_of world.heap)) world.statics ≡ true
  pub monitors : length world.monitors ≡ length world.heap
  pub wait_sets : are_wait_sets world.threads 0 world.monitors ≡ true
  pub opened : Extends (types_of (opening_heap values files)) (types_of world.heap)

-- ---- threads

-- an event of another thread leaves a status as it is, or wakes a thread that waits
pub data Moved (before after : ThreadStatus) : Type 0 where
  Same : (is : after ≡ before) → Moved before after
  Wakes : (object count again : ℕ) (cause : WakeCause) (was : before ≡ Waiting object count) (is : after ≡ Relock object again cause)
      → Moved before after

-- what an event of another thread keeps of a thread
pub record Kept (before after : Thread) : Type 0 where
  pub pending : after.pending ≡ before.pending
  pub status : Moved before.status after.status

-- a thread that is still there, with its object; of the thread that moves no more is said
pub record Still (t : ℕ) (after : List Thread) (u : ℕ) (before : Thread) : Type 0 where
  pub thread : Thread
  pub there : slice_get after u ≡ Some thread
  pub object : thread.object ≡ before.object
  pub kept : (u == t) ≡ false → Kept before thread

-- a thread that was started
pub record Started (files : Program) (objects : List ReferenceType) (thread : Thread) : Type 0 where
  pub pending : thread.pending ≡ None
  pub status : thread.status ≡ Running
  pub object : is_object_in files objects java_lang_thread thread.object ≡ true

-- threads before and after an event of the thread t
pub record Go (files : Program) (objects : List ReferenceType) (t : ℕ) (before after : List Thread) : Type 0 where
  pub still : (u : ℕ) (thread : Thread) → slice_get before u ≡ Some thread → Still t after u thread
  pub started : (u : ℕ) (thread : Thread) → slice_get before u ≡ None → slice_get after u ≡ Some thread → Started files objects thread

-- ---- events

-- what an event of the thread t may do to the world
pub record Changes (files : Program) (t : ℕ) (before after : World) : Type 0 where
  pub extends : Extends (types_of before.heap) (types_of after.heap)
  pub fits : Fits files after
  pub go : Go files (types_of after.heap) t before.threads after.threads

-- the thread t is there and runs, with no exception pending
pub record Live (world : World) (t : ℕ) : Type 0 where
  pub thread : Thread
  pub there : slice_get world.threads t ≡ Some thread
  pub status : thread.status ≡ Running
  pub pending : thread.pending ≡ None

-- the thread t is there and waits for an object
pub record WaitsOn (files : Program) (world : World) (t : ℕ) : Type 0 where
  pub thread : Thread
  pub there : slice_get world.threads t ≡ Some thread
  pub object_of : ℕ
  pub count : ℕ
  pub status : thread.status ≡ Waiting object_of count
  pub pending : thread.pending ≡ None
  pub object : is_object_in files (types_of world.heap) java_lang_object object_of ≡ true

-- ---- outcomes

-- What an instruction of a frame of the thread t, which is ready on top of its stack, has to bring about.
abbrev pub OutcomeTyped : Program → ℕ → World → Frame → OutcomeOf Value → Type 0
OutcomeTyped files t world frame (Goes cost after slots to) =
    Changes files t world after × (Live after t × Ready files (types_of after.heap) (at_offset frame to slots))
OutcomeTyped files t world frame (Raises fault) = Unit {0}
OutcomeTyped files t world frame (Throws exception) = is_object_in files (types_of world.heap) java_lang_throwable exception ≡ true
OutcomeTyped files t world frame Interrupts = Unit {0}
OutcomeTyped files t world frame (Calls callee rest) =
    Ready files (types_of world.heap) callee × Awaits files (types_of world.heap) (result_types files callee.method) (at_call frame rest)
OutcomeTyped files t world frame (Returns after results) =
    Changes files t world after × (Live after t × (are_typed files (types_of after.heap) (result_types files frame.method) results ≡ true))
OutcomeTyped files t world frame (Waits cost after rest) =
    Changes files t world after × (WaitsOn files after t × Awaits files (types_of after.heap) [] (at_call frame rest))
