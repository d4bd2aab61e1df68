-- What a run keeps (JVMS 2.5, 2.6; JLS 17): at the carrier `values` with the kind of each value, at `words` without.
use Rattle.std.specs.Prelude.{ℕ, List, Option, None, Bool, false, map}
use Rattle.model.specs.Names.{Name, Member, java_lang_string}
use Rattle.model.specs.ReferenceTypes.{Primitive, ReferenceType, ClassType, PrimitiveArray, ReferenceArray}
use Rattle.model.specs.Operands.{Slots}
use Rattle.model.specs.Texts.{Text}
use Rattle.model.specs.declared.value.Value.{Value}

-- an object: its class and its fields, each by the class that declares it; or the elements of an array; or the text of a String
pub data ObjectOf (A : Type 0) : Type 0 where
  Instance : (class : Name) (fields : List (Member × A)) → ObjectOf A
  Primitives : (of : Primitive) (elements : List A) → ObjectOf A
  References : (of : ReferenceType) (elements : List A) → ObjectOf A
  Characters : (text : Text) → ObjectOf A

abbrev pub type_of : {A : Type 0} → ObjectOf A → ReferenceType
type_of (Instance class fields) = ClassType class
type_of (Primitives of elements) = PrimitiveArray of
type_of (References of elements) = ReferenceArray of
type_of (Characters text) = ClassType java_lang_string

-- the types of the objects, by their references
abbrev pub types_of : {A : Type 0} → List (ObjectOf A) → List ReferenceType
types_of heap = map type_of heap

-- how far the initialisation of a class is (JVMS 5.5)
pub data ClassStatus : Type 0 where
  NotInitialised : ClassStatus
  InProgress : (by : ℕ) → ClassStatus
  Initialised : ClassStatus
  Erroneous : ClassStatus

-- a thread in a wait set, with the count of its entries (JLS 17.2.1)
pub record Waiter : Type 0 where
  pub thread : ℕ
  pub count : ℕ

-- the monitor of an object (JLS 17.1): its owner, how often the owner entered it, and its wait set in joining order
pub record Monitor : Type 0 where
  pub owner : Option ℕ
  pub count : ℕ
  pub waiters : List Waiter

-- why a thread left a wait set
pub data WakeCause : Type 0 where
  Notified : WakeCause
  Interrupted : WakeCause

-- what a thread is about: it runs, is in the wait set of an object, is to enter its monitor again so many
-- times, or has ended, with an exception or without
pub data ThreadStatus : Type 0 where
  Running : ThreadStatus
  Waiting : (object count : ℕ) → ThreadStatus
  Relock : (object count : ℕ) (cause : WakeCause) → ThreadStatus
  Ended : (exception : Option ℕ) → ThreadStatus

-- a thread but for its stack: its Thread object, whether it has begun, the exception that is pending, and whether
-- it is interrupted
pub record Thread : Type 0 where
  pub object : ℕ
  pub begun : Bool
  pub pending : Option ℕ
  pub interrupted : Bool
  pub status : ThreadStatus

-- where a method is: the offset of its instruction in its code, its local variables and its operand stack
pub record PlaceOf (A : Type 0) : Type 0 where
  pub offset : ℕ
  pub slots : Slots A

-- a frame (JVMS 2.6) of a method, by the class that declares it, with the object that its invocation entered
pub record FrameOf (A : Type 0) : Type 0 where
  pub method : Member
  pub place : PlaceOf A
  pub entered : Option ℕ

-- the superclass comes first, then the class's own initialiser (JVMS 5.5, steps 7 and 9)
pub data Phase : Type 0 where
  Super : Phase
  End : Phase

-- what stands on a thread's stack: a frame, or a class that it initialises
pub data StackEntryOf (A : Type 0) : Type 0 where
  Invocation : (frame : FrameOf A) → StackEntryOf A
  Initialisation : (class : Name) (phase : Phase) → StackEntryOf A

-- the stack of a thread (JVMS 2.5.2), the top first
abbrev pub StackOf : Type 0 → Type 0
StackOf A = List (StackEntryOf A)

-- what the threads share: objects by their references, the static fields of the files, the classes of the files, monitors
-- by the references of their objects, the threads in starting order, the text printed, the Strings that were interned, the first
-- one first, and how many Threads were made without a name
pub record WorldOf (A : Type 0) : Type 0 where
  pub heap : List (ObjectOf A)
  pub statics : List (Member × A)
  pub classes : List (Name × ClassStatus)
  pub monitors : List Monitor
  pub threads : List Thread
  pub printed : Text
  pub interned : List ℕ
  pub unnamed : ℕ

-- the stacks stand in the order of the threads
pub record StateOf (A : Type 0) : Type 0 where
  pub world : WorldOf A
  pub stacks : List (StackOf A)

abbrev pub Place : Type 0
Place = PlaceOf Value

abbrev pub Frame : Type 0
Frame = FrameOf Value

abbrev pub World : Type 0
World = WorldOf Value

abbrev pub State : Type 0
State = StateOf Value

-- a thread of a Thread object that has not begun
abbrev pub new_thread : ℕ → Thread
new_thread object = record { object = object; begun = false; pending = None; interrupted = false; status = Running }
