-- What the built-in methods without code do (own: an event each, with no frame; JLS 17.2, and the API of Object and Thread). The
-- receiver is not null here.
use Rattle.std.specs.Prelude.{ℕ, List, [], ◌∷◌, ◌++◌, Option, Some, None, Bool, true, false, not, ◌&&◌, ◌||◌, if◌then◌else◌, nat_lt, codes, find, is_some, length, slice_get, unwrap_or}
use Rattle.std.specs.Option.{option_map}
use Rattle.model.specs.declared.event.Event.{Event}
use Rattle.model.specs.Names.{Name, name_eq, Member, member_eq, java_lang_class, java_lang_object, java_lang_string, java_lang_string_builder, java_lang_system, java_lang_thread, java_io_print_stream, object_clone, throwable_message, throwable_cause, string_described, string_get_chars, println_int, constructor_name}
use Rattle.std.specs.Fmt.{signed_decimal}
use Rattle.model.specs.declared.print_method.PrintMethod.{PrintMethod}
use Rattle.model.specs.declared.print_method.PrintMethod.TheVariants.{Println, PrintlnChar, PrintlnInt, PrintlnString, PrintChar, PrintInt, PrintString}
use Rattle.model.specs.declared.string_method.StringMethod.{StringMethod}
use Rattle.model.specs.declared.string_method.StringMethod.TheVariants.{Length, CharAt, Equals, HashCode, CompareTo, Concat, Substring, IndexOf, RegionMatches, ValueOfInt, ValueOfChar}
use Rattle.model.specs.declared.builder_method.BuilderMethod.{BuilderMethod}
use Rattle.model.specs.declared.builder_method.BuilderMethod.TheVariants.{ConstructEmpty, ConstructOfString, AppendString, AppendInt, AppendChar, AppendBuilder, ToString}
use Rattle.model.specs.declared.name_method.NameMethod.{NameMethod}
use Rattle.model.specs.declared.name_method.NameMethod.TheVariants as name_method
use Rattle.model.specs.declared.text_method.TextMethod.{TextMethod}
use Rattle.model.specs.declared.text_method.TextMethod.TheVariants as text_method
use Rattle.model.specs.declared.object_method.ObjectMethod.{ObjectMethod}
use Rattle.model.specs.declared.object_method.ObjectMethod.TheVariants as object_method
use Rattle.model.specs.StringMethods.{StringAnswer, IsNull, IsOutside, Answers, Same, Composes, string_answer}
use Rattle.model.specs.declared.instr.Conversion.TheVariants.{ToChar}
use Rattle.model.specs.Ints.{signed, converted}
use Rattle.model.specs.Texts.{Text, int_line}
use Rattle.model.specs.Operands.{Slots, Carrier}
use Rattle.model.specs.State.{Waiter, Notified, Interrupted, ThreadStatus, Running, Waiting, Relock, Ended, WorldOf, Characters, new_thread}
use Rattle.model.specs.Outcomes.{OutcomeOf, Raises, Interrupts, Waits, NullPointer, IllegalMonitorState, IllegalThreadState, StringIndexOutOfBounds, Makes, Starts, Joins}
use Rattle.model.specs.Monitors as monitors
use Rattle.model.specs.Monitors.{monitor_at}
use Rattle.model.specs.Worlds.{thread_at, with_status, with_interrupted, thread_of, is_alive, is_interrupted, allocated, object_at, with_object, with_field, is_owner, with_monitors, woken, all_woken, waiters_of}
use Rattle.model.specs.Sites.{picks_none, pushing, pushing_at, operand, referent, int_operand}
pub use Rattle.model.specs.Worlds.{string_shown, string_text}
pub use Rattle.model.specs.Sites.{object_of}
use Rattle.model.specs.Classes.{Program}
use Rattle.model.specs.Opening.{string_reference}
use Rattle.model.specs.BuilderMethods.{builder_does}
use Rattle.model.specs.ObjectMethods.{object_tells}
use Rattle.model.specs.Cloning.{object_clones}
use Rattle.model.specs.ThreadNames.{thread_names}
pub use Rattle.model.specs.TextMethods.{string_operand}
use Rattle.model.specs.TextMethods.{string_writes}

pub data BuiltInMethod : Type 0 where
  -- the constructors without parameters of Object and of the classes of exceptions
  Construct : BuiltInMethod
  -- the constructors of exceptions with a message, and with a message and a cause
  ConstructWithMessage : BuiltInMethod
  ConstructWithCause : BuiltInMethod
  ObjectClone : BuiltInMethod
  ObjectWait : BuiltInMethod
  ObjectNotify : BuiltInMethod
  ObjectNotifyAll : BuiltInMethod
  ThreadStart : BuiltInMethod
  ThreadInterrupt : BuiltInMethod
  ThreadIsInterrupted : BuiltInMethod
  ThreadInterrupted : BuiltInMethod
  ThreadYield : BuiltInMethod
  ThreadCurrentThread : BuiltInMethod
  ThreadJoin : BuiltInMethod
  ThreadIsAlive : BuiltInMethod
  ThreadNames : NameMethod → BuiltInMethod
  PrintStreamPrints : PrintMethod → BuiltInMethod
  StringAnswers : StringMethod → BuiltInMethod
  StringWrites : TextMethod → BuiltInMethod
  StringBuilderBuilds : BuilderMethod → BuiltInMethod
  ObjectAnswers : ObjectMethod → BuiltInMethod

-- ---- by their names

abbrev pub of_object : Name → Name → Member
of_object name descriptor = record { class = java_lang_object; name = name; descriptor = descriptor }

abbrev pub of_system : Name → Name → Member
of_system name descriptor = record { class = java_lang_system; name = name; descriptor = descriptor }

abbrev pub of_class_object : Name → Name → Member
of_class_object name descriptor = record { class = java_lang_class; name = name; descriptor = descriptor }

abbrev pub of_thread : Name → Name → Member
of_thread name descriptor = record { class = java_lang_thread; name = name; descriptor = descriptor }

abbrev pub of_print_stream : Name → Name → Member
of_print_stream name descriptor = record { class = java_io_print_stream; name = name; descriptor = descriptor }

abbrev pub of_string : Name → Name → Member
of_string name descriptor = record { class = java_lang_string; name = name; descriptor = descriptor }

abbrev pub of_string_builder : Name → Name → Member
of_string_builder name descriptor = record { class = java_lang_string_builder; name = name; descriptor = descriptor }

abbrev pub built_in_methods : List (Member × BuiltInMethod)
built_in_methods =
    (of_object (codes "wait") (codes "()V"), ObjectWait)
    ∷ (of_object (codes "notify") (codes "()V"), ObjectNotify)
    ∷ (of_object (codes "notifyAll") (codes "()V"), ObjectNotifyAll)
    ∷ (object_clone, ObjectClone)
    ∷ (of_thread constructor_name (codes "()V"), ThreadNames name_method.Construct)
    ∷ (of_thread constructor_name (codes "(Ljava/lang/Runnable;)V"), ThreadNames name_method.ConstructWithTarget)
    ∷ (of_thread constructor_name (codes "(Ljava/lang/String;)V"), ThreadNames name_method.ConstructWithName)
    ∷ (of_thread constructor_name (codes "(Ljava/lang/Runnable;Ljava/lang/String;)V"), ThreadNames name_method.ConstructWithTargetAndName)
    ∷ (of_thread (codes "start") (codes "()V"), ThreadStart)
    ∷ (of_thread (codes "interrupt") (codes "()V"), ThreadInterrupt)
    ∷ (of_thread (codes "isInterrupted") (codes "()Z"), ThreadIsInterrupted)
    ∷ (of_thread (codes "interrupted") (codes "()Z"), ThreadInterrupted)
    ∷ (of_thread (codes "yield") (codes "()V"), ThreadYield)
    ∷ (of_thread (codes "currentThread") (codes "()Ljava/lang/Thread;"), ThreadCurrentThread)
    ∷ (of_thread (codes "join") (codes "()V"), ThreadJoin)
    ∷ (of_thread (codes "isAlive") (codes "()Z"), ThreadIsAlive)
    ∷ (of_thread (codes "getName") (codes "()Ljava/lang/String;"), ThreadNames name_method.GetName)
    ∷ (of_thread (codes "setName") (codes "(Ljava/lang/String;)V"), ThreadNames name_method.SetName)
    ∷ (of_print_stream (codes "println") (codes "()V"), PrintStreamPrints Println)
    ∷ (of_print_stream (codes "println") (codes "(C)V"), PrintStreamPrints PrintlnChar)
    ∷ (println_int, PrintStreamPrints PrintlnInt)
    ∷ (of_print_stream (codes "println") (codes "(Ljava/lang/String;)V"), PrintStreamPrints PrintlnString)
    ∷ (of_print_stream (codes "print") (codes "(C)V"), PrintStreamPrints PrintChar)
    ∷ (of_print_stream (codes "print") (codes "(I)V"), PrintStreamPrints PrintInt)
    ∷ (of_print_stream (codes "print") (codes "(Ljava/lang/String;)V"), PrintStreamPrints PrintString)
    ∷ (of_string (codes "length") (codes "()I"), StringAnswers Length)
    ∷ (of_string (codes "charAt") (codes "(I)C"), StringAnswers CharAt)
    ∷ (of_string (codes "equals") (codes "(Ljava/lang/Object;)Z"), StringAnswers Equals)
    ∷ (of_string (codes "hashCode") (codes "()I"), StringAnswers HashCode)
    ∷ (of_string (codes "compareTo") (codes "(Ljava/lang/String;)I"), StringAnswers CompareTo)
    ∷ (of_string (codes "concat") (codes "(Ljava/lang/String;)Ljava/lang/String;"), StringAnswers Concat)
    ∷ (of_string (codes "substring") (codes "(II)Ljava/lang/String;"), StringAnswers Substring)
    ∷ (of_string (codes "indexOf") (codes "(II)I"), StringAnswers IndexOf)
    ∷ (of_string (codes "regionMatches") (codes "(ILjava/lang/String;II)Z"), StringAnswers RegionMatches)
    ∷ (of_string (codes "valueOf") (codes "(I)Ljava/lang/String;"), StringAnswers ValueOfInt)
    ∷ (of_string (codes "valueOf") (codes "(C)Ljava/lang/String;"), StringAnswers ValueOfChar)
    ∷ (of_string constructor_name (codes "()V"), StringWrites text_method.ConstructEmpty)
    ∷ (of_string constructor_name (codes "(Ljava/lang/String;)V"), StringWrites text_method.ConstructOfString)
    ∷ (of_string constructor_name (codes "([CII)V"), StringWrites text_method.ConstructOfChars)
    ∷ (string_get_chars, StringWrites text_method.GetChars)
    ∷ (of_string (codes "intern") (codes "()Ljava/lang/String;"), StringWrites text_method.Intern)
    ∷ (of_string_builder constructor_name (codes "()V"), StringBuilderBuilds ConstructEmpty)
    ∷ (of_string_builder constructor_name (codes "(Ljava/lang/String;)V"), StringBuilderBuilds ConstructOfString)
    ∷ (of_string_builder (codes "append") (codes "(Ljava/lang/String;)Ljava/lang/StringBuilder;"), StringBuilderBuilds AppendString)
    ∷ (of_string_builder (codes "append") (codes "(I)Ljava/lang/StringBuilder;"), StringBuilderBuilds AppendInt)
    ∷ (of_string_builder (codes "append") (codes "(C)Ljava/lang/StringBuilder;"), StringBuilderBuilds AppendChar)
    ∷ (of_string_builder (codes "append") (codes "(Ljava/lang/StringBuilder;)Ljava/lang/StringBuilder;"), StringBuilderBuilds AppendBuilder)
    ∷ (of_string_builder (codes "toString") (codes "()Ljava/lang/String;"), StringBuilderBuilds ToString)
    ∷ (of_object (codes "hashCode") (codes "()I"), ObjectAnswers object_method.HashCode)
    ∷ (of_object (codes "getClass") (codes "()Ljava/lang/Class;"), ObjectAnswers object_method.GetClass)
    ∷ (of_system (codes "identityHashCode") (codes "(Ljava/lang/Object;)I"), ObjectAnswers object_method.IdentityHashCode)
    ∷ (of_class_object (codes "getName") (codes "()Ljava/lang/String;"), ObjectAnswers object_method.ClassName)
    ∷ (string_described, ObjectAnswers object_method.Described)
    ∷ []

abbrev pub is_row_of : Member → Member × BuiltInMethod → Bool
is_row_of method row = member_eq row.0 method

-- the constructors of exceptions, by their descriptor: with a message, with a message and a cause, or without
abbrev pub constructor_of : Name → BuiltInMethod
constructor_of descriptor =
    if name_eq descriptor (codes "(Ljava/lang/String;)V") then ConstructWithMessage
    else if name_eq descriptor (codes "(Ljava/lang/String;Ljava/lang/Throwable;)V") then ConstructWithCause
    else Construct

-- those that have no row of their own are the other constructors
abbrev pub built_in_method : Member → BuiltInMethod
built_in_method method =
    unwrap_or (option_map (λ (row : Member × BuiltInMethod). row.1) (find (is_row_of method) built_in_methods)) (constructor_of method.descriptor)

-- ---- wait, notify, notifyAll (JLS 17.2)

-- The thread joins the wait set as last with the count of its entries, and nobody owns the monitor.
abbrev pub waiting : {A : Type 0} → WorldOf A → ℕ → ℕ → WorldOf A
waiting world t object =
    with_status (with_monitors world (monitors.wait object t world.monitors)) t (Waiting object (monitor_at world.monitors object).count)

-- by whether the thread owns the monitor, and whether it is interrupted
abbrev pub wait_by : {A : Type 0} → Bool → Bool → ℕ → ℕ → WorldOf A → List A → OutcomeOf A
wait_by false interrupted t object world rest = Raises IllegalMonitorState
wait_by true true t object world rest = Interrupts
wait_by true false t object world rest = Waits (Joins object) (waiting world t object) rest

abbrev pub notified_one : {A : Type 0} → WorldOf A → ℕ → Option Waiter → WorldOf A
notified_one world object None = world
notified_one world object (Some waiter) = woken object Notified world waiter

-- The member of the wait set that the event picks leaves it, if there is one.
abbrev pub notified : {A : Type 0} → WorldOf A → ℕ → ℕ → ℕ → WorldOf A
notified world t object pick = notified_one (with_monitors world (monitors.notify object t pick world.monitors)) object (slice_get (waiters_of world object) pick)

-- All members leave it.
abbrev pub notified_all : {A : Type 0} → WorldOf A → ℕ → ℕ → WorldOf A
notified_all world t object = all_woken object Notified (with_monitors world (monitors.notify_all object t world.monitors)) (waiters_of world object)

-- what only the owner of the monitor may do
abbrev pub if_owner : {A : Type 0} → Bool → OutcomeOf A → OutcomeOf A
if_owner true done = done
if_owner false done = Raises IllegalMonitorState

-- ---- threads (JLS 17.2.3, 17.3)

abbrev pub with_started : {A : Type 0} → WorldOf A → ℕ → WorldOf A
with_started world object = record world { threads = world.threads ++ new_thread object ∷ [] }

-- by whether a thread of the object was started
abbrev pub start_by : {A : Type 0} → Bool → ℕ → ℕ → WorldOf A → Slots A → List A → OutcomeOf A
start_by true next object world slots rest = Raises IllegalThreadState
start_by false next object world slots rest = pushing_at Starts next [] (with_started world object) slots rest

-- A thread in a wait set leaves it; one that was notified before does not mind (own).
abbrev pub interrupted_in : {A : Type 0} → WorldOf A → ℕ → ThreadStatus → WorldOf A
interrupted_in world t Running = with_interrupted world t true
interrupted_in world t (Waiting object count) =
    with_status (with_interrupted (with_monitors world (monitors.interrupt object t world.monitors)) t true) t (Relock object count Interrupted)
interrupted_in world t (Relock object count cause) = with_interrupted world t true
interrupted_in world t (Ended exception) = world

-- Nothing becomes of a thread that is not alive (own).
abbrev pub interrupted_on : {A : Type 0} → WorldOf A → Option ℕ → WorldOf A
interrupted_on world None = world
interrupted_on world (Some t) = interrupted_in world t (thread_at world t).status

-- A thread that is not alive is not waited for; an interrupted one does not wait (own: no monitor is entered).
abbrev pub may_join : {A : Type 0} → WorldOf A → ℕ → ℕ → Bool
may_join world t object = not (is_alive world object) || (thread_at world t).interrupted

abbrev pub join_by : {A : Type 0} → Bool → ℕ → WorldOf A → Slots A → List A → OutcomeOf A
join_by true next world slots rest = Interrupts
join_by false next world slots rest = pushing next [] world slots rest

abbrev pub bit : Bool → ℕ
bit b = if b then 1 else 0

-- ---- println, print (own: all streams are one text)

-- what is printed of the operand on top of the stack: an int in decimal, a char as its unit
abbrev pub printed_by : {A : Type 0} → Carrier A → PrintMethod → WorldOf A → List A → Text
printed_by C Println world ops = 10 ∷ []
printed_by C PrintlnChar world ops = converted ToChar (int_operand C ops 0) ∷ 10 ∷ []
printed_by C PrintlnInt world ops = int_line (int_operand C ops 0)
printed_by C PrintlnString world ops = string_shown world (referent C ops 0) ++ 10 ∷ []
printed_by C PrintChar world ops = converted ToChar (int_operand C ops 0) ∷ []
printed_by C PrintInt world ops = signed_decimal (signed (int_operand C ops 0))
printed_by C PrintString world ops = string_shown world (referent C ops 0)

abbrev pub with_printed : {A : Type 0} → WorldOf A → Text → WorldOf A
with_printed world text = record world { printed = world.printed ++ text }

-- ---- the methods of String

-- A new String is one object, and its units are cells.
abbrev pub answered : {A : Type 0} → Carrier A → StringAnswer → ℕ → WorldOf A → Slots A → List A → List A → OutcomeOf A
answered C IsNull next world slots ops rest = Raises NullPointer
answered C IsOutside next world slots ops rest = Raises StringIndexOutOfBounds
answered C (Answers bits) next world slots ops rest = pushing next (C.int bits ∷ []) world slots rest
answered C (Same k) next world slots ops rest = pushing next (operand C ops k ∷ []) world slots rest
answered C (Composes text) next world slots ops rest =
    pushing_at (Makes (length text)) next (C.reference (length world.heap) ∷ []) (allocated world (Characters text)) slots rest

-- ---- the table

-- whether the event may do it now; a method without parameters has its receiver on top
abbrev pub built_in_may : {A : Type 0} → Carrier A → BuiltInMethod → Event → WorldOf A → List A → Bool
built_in_may C ObjectNotify event world ops =
    if is_owner world event.thread (object_of C ops 0) && nat_lt 0 (length (waiters_of world (object_of C ops 0)))
    then nat_lt event.pick (length (waiters_of world (object_of C ops 0)))
    else picks_none event world ops
built_in_may C ThreadJoin event world ops = picks_none event world ops && may_join world event.thread (object_of C ops 0)
built_in_may C method event world ops = picks_none event world ops

abbrev pub built_in_does : {A : Type 0} → Carrier A → Program → BuiltInMethod → ℕ → Event → WorldOf A → Slots A → List A → List A → OutcomeOf A
-- .., objectref -> ..
built_in_does C files Construct next event world slots ops rest = pushing next [] world slots rest
-- .., objectref, message -> ..
built_in_does C files ConstructWithMessage next event world slots ops rest =
    pushing next [] (with_object world (object_of C ops 1) (with_field throwable_message (operand C ops 0) (object_at world (object_of C ops 1)))) slots rest
-- .., objectref, message, cause -> ..
built_in_does C files ConstructWithCause next event world slots ops rest =
    pushing next []
    (with_object world (object_of C ops 2)
    (with_field throwable_cause (operand C ops 0) (with_field throwable_message (operand C ops 1) (object_at world (object_of C ops 2)))))
    slots rest
-- .., objectref -> .., result
built_in_does C files ObjectClone next event world slots ops rest = object_clones C files next world slots ops rest
-- .., objectref -> ..
built_in_does C files ObjectWait next event world slots ops rest =
    wait_by (is_owner world event.thread (object_of C ops 0)) (thread_at world event.thread).interrupted event.thread (object_of C ops 0) world rest
built_in_does C files ObjectNotify next event world slots ops rest =
    if_owner (is_owner world event.thread (object_of C ops 0)) (pushing next [] (notified world event.thread (object_of C ops 0) event.pick) slots rest)
built_in_does C files ObjectNotifyAll next event world slots ops rest =
    if_owner (is_owner world event.thread (object_of C ops 0)) (pushing next [] (notified_all world event.thread (object_of C ops 0)) slots rest)
built_in_does C files ThreadStart next event world slots ops rest = start_by (is_some (thread_of world (object_of C ops 0))) next (object_of C ops 0) world slots rest
built_in_does C files ThreadInterrupt next event world slots ops rest = pushing next [] (interrupted_on world (thread_of world (object_of C ops 0))) slots rest
-- .., objectref -> .., result
built_in_does C files ThreadIsInterrupted next event world slots ops rest = pushing next (C.int (bit (is_interrupted world (object_of C ops 0))) ∷ []) world slots rest
-- .. -> .., result: the status of the thread itself, which is cleared
built_in_does C files ThreadInterrupted next event world slots ops rest =
    pushing next (C.int (bit (thread_at world event.thread).interrupted) ∷ []) (with_interrupted world event.thread false) slots rest
-- .. -> ..
built_in_does C files ThreadYield next event world slots ops rest = pushing next [] world slots rest
-- .. -> .., result
built_in_does C files ThreadCurrentThread next event world slots ops rest = pushing next (C.reference (thread_at world event.thread).object ∷ []) world slots rest
-- .., objectref -> ..: where the target is alive, the thread was interrupted
built_in_does C files ThreadJoin next event world slots ops rest = join_by (is_alive world (object_of C ops 0)) next world slots rest
-- .., objectref -> .., result
built_in_does C files ThreadIsAlive next event world slots ops rest = pushing next (C.int (bit (is_alive world (object_of C ops 0))) ∷ []) world slots rest
-- .., objectref, [value, ..] -> .., [result]
built_in_does C files (ThreadNames method) next event world slots ops rest = thread_names C method next world slots ops rest
-- .., objectref, [value] -> ..
built_in_does C files (PrintStreamPrints method) next event world slots ops rest = pushing next [] (with_printed world (printed_by C method world ops)) slots rest
-- .., [objectref], [value, ..] -> .., result
built_in_does C files (StringAnswers method) next event world slots ops rest =
    answered C (string_answer method (int_operand C ops) (string_operand C world ops)) next world slots ops rest
-- .., objectref, [value, ..] -> .., [result]
built_in_does C files (StringWrites method) next event world slots ops rest = string_writes C files method next world slots ops rest
-- .., [objectref], [value] -> .., [result]
built_in_does C files (StringBuilderBuilds method) next event world slots ops rest =
    builder_does C (string_reference files []) method next world slots ops rest
-- .., [objectref], [value] -> .., result
built_in_does C files (ObjectAnswers method) next event world slots ops rest = object_tells C files method next world slots ops rest
