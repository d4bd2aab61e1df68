-- The threads of a run (JLS 17), but for their stacks, and how many there may be.
use Rattle.std.specs.Prelude.{◌≡◌, ℕ, ◌<◌, ◌≤◌, ◌==◌, List, [], ◌∷◌, ◌++◌, length, Option, Result, Ok, Err}
use Rattle.std.specs.Prelude.{slice_index_or, slice_set}
use Rattle.std.specs.List.{position}
use Rattle.model.specs.BuiltInNumbers.{most_threads}
use Rattle.model.specs.State.{Thread, new_thread}
use Rattle.heap.specs.declared.java_threads.refusal.ThreadRefusal.{ThreadRefusal}
use Rattle.heap.specs.declared.java_threads.refusal.ThreadRefusal.TheVariants.{Threads, Memory}

-- the threads in starting order, main's first, and how many may be started, main's included
pub record ThreadTable : Type 0 where
  pub threads : List Thread
  pub limit : ℕ

-- the thread of this number; past the last one there stands, as in the definitions of the step, a new thread of
-- object 0
abbrev pub thread_at : List Thread → ℕ → Thread
thread_at threads t = slice_index_or threads t (new_thread 0)

-- the number of the thread of a Thread object, the first where there are several
abbrev pub number_of : List Thread → ℕ → Option ℕ
number_of threads object = position (λ (thread : Thread). thread.object == object) threads

-- another thread in the place of this number, if there is one
abbrev pub with_thread : ThreadTable → ℕ → Thread → ThreadTable
with_thread table t thread = record table { threads = slice_set table.threads t thread }

-- main's thread is there, and there are not more than the limit says
pub record IsWithin (count limit : ℕ) : Type 0 where
  pub main : 1 ≤ count
  pub limited : count ≤ limit
  pub numbered : limit ≤ most_threads

-- a thread was started, or refused because as many were started as may be, or for want of memory
abbrev pub IsAdded : Result (Unit {0}) ThreadRefusal → ℕ → ThreadTable → ThreadTable → Type 0
IsAdded (Ok u) object old new =
    (length old.threads < old.limit) × (new ≡ record old { threads = old.threads ++ new_thread object ∷ [] })
IsAdded (Err Threads) object old new = (old.limit ≤ length old.threads) × (new ≡ old)
IsAdded (Err Memory) object old new = (length old.threads < old.limit) × (new ≡ old)
