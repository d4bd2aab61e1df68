-- What an instruction does (JVMS 2.6.4, 2.6.5, 6.5), apart from what becomes of the state by it.
use Rattle.std.specs.Prelude.{ℕ, List, Option, Some, None, codes}
use Rattle.model.specs.Names.{Name}
use Rattle.model.specs.Operands.{Slots}
use Rattle.model.specs.State.{WorldOf, FrameOf}

-- an exception that the machine makes (JVMS 2.10)
pub data MachineException : Type 0 where
  NullPointer : MachineException
  Arithmetic : MachineException
  ArrayIndexOutOfBounds : MachineException
  StringIndexOutOfBounds : MachineException
  NegativeArraySize : MachineException
  CloneNotSupported : MachineException
  ArrayStore : MachineException
  ClassCast : MachineException
  IllegalMonitorState : MachineException
  IllegalThreadState : MachineException
  InterruptedWait : MachineException
  IncompatibleClassChange : MachineException
  AbstractMethod : MachineException
  StackOverflow : MachineException
  NoClassDefFound : MachineException
  ExceptionInInitializer : MachineException

abbrev pub exception_class : MachineException → Name
exception_class NullPointer = codes "java/lang/NullPointerException"
exception_class Arithmetic = codes "java/lang/ArithmeticException"
exception_class ArrayIndexOutOfBounds = codes "java/lang/ArrayIndexOutOfBoundsException"
exception_class StringIndexOutOfBounds = codes "java/lang/StringIndexOutOfBoundsException"
exception_class NegativeArraySize = codes "java/lang/NegativeArraySizeException"
exception_class CloneNotSupported = codes "java/lang/CloneNotSupportedException"
exception_class ArrayStore = codes "java/lang/ArrayStoreException"
exception_class ClassCast = codes "java/lang/ClassCastException"
exception_class IllegalMonitorState = codes "java/lang/IllegalMonitorStateException"
exception_class IllegalThreadState = codes "java/lang/IllegalThreadStateException"
exception_class InterruptedWait = codes "java/lang/InterruptedException"
exception_class IncompatibleClassChange = codes "java/lang/IncompatibleClassChangeError"
exception_class AbstractMethod = codes "java/lang/AbstractMethodError"
exception_class StackOverflow = codes "java/lang/StackOverflowError"
exception_class NoClassDefFound = codes "java/lang/NoClassDefFoundError"
exception_class ExceptionInInitializer = codes "java/lang/ExceptionInInitializerError"

-- what an event takes that a limit may forbid (own): an object of so many cells, so many cells of one that is there, a thread, one more entry of
-- the monitor of an object by an owner with so many, or a place in the wait set of an object
pub data Cost : Type 0 where
  Free : Cost
  Makes : (cells : ℕ) → Cost
  Fills : (cells : ℕ) → Cost
  Starts : Cost
  Enters : (object count : ℕ) → Cost
  Joins : (object : ℕ) → Cost

pub data OutcomeOf (A : Type 0) : Type 0 where
  -- on to an offset
  Goes : (cost : Cost) (world : WorldOf A) (slots : Slots A) (to : ℕ) → OutcomeOf A
  -- an exception that the machine makes
  Raises : (fault : MachineException) → OutcomeOf A
  -- an exception that is there
  Throws : (exception : ℕ) → OutcomeOf A
  -- an InterruptedException, by which the thread's interrupt status is cleared (JLS 17.2.1, 17.2.3)
  Interrupts : OutcomeOf A
  -- a new frame, and what is left on the stack under the arguments
  Calls : (frame : FrameOf A) (rest : List A) → OutcomeOf A
  -- back to the invoker, with no result or one
  Returns : (world : WorldOf A) (results : List A) → OutcomeOf A
  -- into a wait set; the call returns when the thread has left it and owns the monitor again
  Waits : (cost : Cost) (world : WorldOf A) (rest : List A) → OutcomeOf A

-- what is done to the object of a reference
abbrev pub not_null : {A : Type 0} → Option ℕ → (ℕ → OutcomeOf A) → OutcomeOf A
not_null None go = Raises NullPointer
not_null (Some r) go = go r
