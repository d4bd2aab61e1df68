-- The references of a well-typed state: each is that of an object that is there, and its word r + 1 is one of 32 bits.
use Rattle.std.specs.Prelude.{◌≡◌, ℕ, ◌+◌, ◌<◌, ◌^◌, List, [], Some, map, length, slice_get, IsTrue, IsFalse}
use Rattle.model.specs.declared.value.Value.{Value}
use Rattle.model.specs.Names.{Member}
use Rattle.model.specs.Classes.{Program}
use Rattle.model.specs.Types.{VerificationType, is_usable}
use Rattle.model.specs.Operands.{reference_of}
use Rattle.model.specs.State.{ObjectOf, Instance, Primitives, References, Characters, types_of, ThreadStatus, Running, Waiting, Relock, Ended, Thread, Frame, StateOf, State}
use Rattle.model.specs.Worlds.{has_ended}
use Rattle.model.specs.WellTyped.{Stopped, Ready, Awaits, IsWellTyped}
use Rattle.model.specs.Words.{AreWellTypedWords}

-- the object of a reference is one of so many, and its word is one of 32 bits
pub record Fits (objects r : ℕ) : Type 0 where
  pub there : r < objects
  pub word : r + 1 < 2 ^ 32

-- so if it is a reference
abbrev pub IsFitting : ℕ → Value → Type 0
IsFitting objects value = (r : ℕ) → reference_of value ≡ Some r → Fits objects r

abbrev pub AreFitting : ℕ → List Value → Type 0
AreFitting objects vs = (k : ℕ) (value : Value) → slice_get vs k ≡ Some value → IsFitting objects value

-- the values of the fields or elements of an object; the units of a text are no values
abbrev pub cell_values : ObjectOf Value → List Value
cell_values (Instance class fields) = map (λ (field : Member × Value). field.1) fields
cell_values (Primitives of elements) = elements
cell_values (References of elements) = elements
cell_values (Characters text) = []

-- what stands where a typing has a type that may be used (JVMS 4.10.1); a variable that may not be read holds anything
abbrev pub AreSlotsFitting : ℕ → List VerificationType → List Value → Type 0
AreSlotsFitting objects types vs =
    (k : ℕ) (type : VerificationType) (value : Value) → slice_get types k ≡ Some type → slice_get vs k ≡ Some value → IsTrue (is_usable type) → IsFitting objects value

-- ---- threads, over values and over words

abbrev pub IsStatusFitting : ℕ → ThreadStatus → Type 0
IsStatusFitting objects Running = Unit {0}
IsStatusFitting objects (Waiting object count) = Fits objects object
IsStatusFitting objects (Relock object count cause) = Fits objects object
IsStatusFitting objects (Ended exception) = Unit {0}

-- its Thread object, the exception that is pending, and the object whose monitor it is to enter again
pub record IsThreadFitting (objects : ℕ) (thread : Thread) : Type 0 where
  pub object : Fits objects thread.object
  pub pending : (exception : ℕ) → IsFalse (has_ended thread.status) → thread.pending ≡ Some exception → Fits objects exception
  pub status : IsStatusFitting objects thread.status

-- ---- the statements

-- where there are fewer than 2^32 objects
pub record HaveRoom (files : Program) (state : State) : Type 0 where
  pub cells : (object : ℕ) (o : ObjectOf Value) → slice_get state.world.heap object ≡ Some o
      → AreFitting (length state.world.heap) (cell_values o)
  pub statics : AreFitting (length state.world.heap) (map (λ (field : Member × Value). field.1) state.world.statics)
  pub threads : (t : ℕ) (thread : Thread) → slice_get state.world.threads t ≡ Some thread → IsThreadFitting (length state.world.heap) thread
  -- the frames of its stacks: one where an exception is pending, one that is about to do its instruction, and one at a call
  pub stopped : (frame : Frame) (h : Stopped files (types_of state.world.heap) frame)
      → AreSlotsFitting (length state.world.heap) h.stands.type.slots.locals frame.place.slots.locals
  pub ready : (frame : Frame) (h : Ready files (types_of state.world.heap) frame)
      → AreSlotsFitting (length state.world.heap) h.stopped.stands.type.slots.stack frame.place.slots.stack
  pub awaits : (frame : Frame) (results : List VerificationType) (h : Awaits files (types_of state.world.heap) results frame)
      → AreSlotsFitting (length state.world.heap) h.after.slots.locals frame.place.slots.locals
      × AreSlotsFitting (length state.world.heap) h.rest frame.place.slots.stack

abbrev pub AreReferencesFitting : Type 0
AreReferencesFitting = (files : Program) (state : State) → IsWellTyped files state → length state.world.heap < 2 ^ 32 → HaveRoom files state

-- of words of a well-typed state, what a thread keeps beside its stack
abbrev pub AreThreadsFitting : Type 0
AreThreadsFitting =
    (files : Program) (words : StateOf ℕ) → AreWellTypedWords files words → length words.world.heap < 2 ^ 32
    → (t : ℕ) (thread : Thread) → slice_get words.world.threads t ≡ Some thread → IsThreadFitting (length words.world.heap) thread
