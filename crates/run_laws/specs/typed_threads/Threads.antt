-- What a thread keeps beside its stack, at the words of a well-typed state (JVMS 2.5, 2.10; JLS 17.1, 17.2).
use Rattle.std.specs.Prelude.{◌≡◌, ℕ, ◌<◌, Option, Some, None, length, slice_get, IsFalse}
use Rattle.model.specs.Names.{java_lang_thread, java_lang_throwable}
use Rattle.model.specs.Classes.{Program}
use Rattle.model.specs.State.{ThreadStatus, Running, Waiting, Relock, Ended, Thread, StateOf}
use Rattle.model.specs.Worlds.{has_ended}
use Rattle.model.specs.Words.{AreWellTypedWords}
use Rattle.run_laws.specs.typed_threads.Objects.{IsInstance}

-- ---- exceptions

-- the exception that is pending in a thread that has not ended is a Throwable (JVMS 2.10)
abbrev pub ArePendingThrowable : Type 0
ArePendingThrowable =
    (files : Program) (words : StateOf ℕ) → AreWellTypedWords files words → (t : ℕ) (thread : Thread) (exception : ℕ)
    → slice_get words.world.threads t ≡ Some thread → IsFalse (has_ended thread.status) → thread.pending ≡ Some exception
    → IsInstance files words.world.heap java_lang_throwable exception

-- ---- Thread objects

-- the object of a thread is a Thread
abbrev pub AreThreadObjects : Type 0
AreThreadObjects =
    (files : Program) (words : StateOf ℕ) → AreWellTypedWords files words → (t : ℕ) (thread : Thread)
    → slice_get words.world.threads t ≡ Some thread → IsInstance files words.world.heap java_lang_thread thread.object

-- ---- wait sets

-- the object in whose wait set a thread is, or whose monitor it is to enter again
abbrev pub waits_for : ThreadStatus → Option ℕ
waits_for Running = None
waits_for (Waiting object count) = Some object
waits_for (Relock object count cause) = Some object
waits_for (Ended exception) = None

-- no exception is pending meanwhile, and the object is one of so many
pub record IsWaitFor (objects object : ℕ) (thread : Thread) : Type 0 where
  pub pending : thread.pending ≡ None
  pub there : object < objects

abbrev pub AreWaitsForObjects : Type 0
AreWaitsForObjects =
    (files : Program) (words : StateOf ℕ) → AreWellTypedWords files words → (t : ℕ) (thread : Thread) (object : ℕ)
    → slice_get words.world.threads t ≡ Some thread → waits_for thread.status ≡ Some object
    → IsWaitFor (length words.world.heap) object thread

-- ---- tables

-- each object has a monitor, and each thread a stack
pub record IsCounted (state : StateOf ℕ) : Type 0 where
  pub monitors : length state.world.monitors ≡ length state.world.heap
  pub stacks : length state.stacks ≡ length state.world.threads

abbrev pub AreTablesCounted : Type 0
AreTablesCounted = (files : Program) (words : StateOf ℕ) → AreWellTypedWords files words → IsCounted words
