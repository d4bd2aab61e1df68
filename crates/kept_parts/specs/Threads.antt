-- A thread with its stack as a row of words (own): what it is about, its object, whether it has begun and is
-- interrupted, the exception
-- that is pending, and its stack.
use Rattle.std.specs.Prelude.{◌≡◌, ℕ, List, [], ◌∷◌, ◌++◌, Some, None}
use Rattle.model.specs.State as model
use Rattle.model.specs.State.{Thread}
use Rattle.heap.specs.java_threads.Table.{ThreadTable}
use Rattle.heap.specs.java_threads.Statuses.{status_of}
use Rattle.thread_stacks.specs.Stacks.{ShownEntry}
use Rattle.kept_parts.specs.declared.thread_rows.Fields.{Fields}
use Rattle.kept_parts.specs.Rows.{option_row, flag_code}
use Rattle.kept_parts.specs.Stacks.{IsStackRow}

abbrev pub cause_code : model.WakeCause → ℕ
cause_code model.Notified = 2
cause_code model.Interrupted = 3

abbrev pub status_row : model.ThreadStatus → List ℕ
status_row model.Running = 0 ∷ 0 ∷ 0 ∷ []
status_row (model.Waiting object count) = 1 ∷ object ∷ count ∷ []
status_row (model.Relock object count cause) = cause_code cause ∷ object ∷ count ∷ []
status_row (model.Ended None) = 4 ∷ 0 ∷ 0 ∷ []
status_row (model.Ended (Some exception)) = 5 ∷ exception ∷ 0 ∷ []

-- a thread but for its stack
abbrev pub thread_row : Thread → List ℕ
thread_row thread =
    status_row thread.status ++ thread.object ∷ flag_code thread.begun ∷ flag_code thread.interrupted
    ∷ option_row thread.pending

abbrev pub thread_of : Fields → Thread
thread_of fields =
    record {
      object = fields.object;
      begun = fields.begun;
      pending = fields.pending;
      interrupted = fields.interrupted;
      status = status_of fields.status;
    }

pub record IsThreadRow (row : List ℕ) (thread : Thread) (stack : List ShownEntry) : Type 0 where
  pub stack_words : List ℕ
  pub row_is : row ≡ thread_row thread ++ stack_words
  pub is_stack : IsStackRow stack_words stack

-- the row of a thread was put behind other words
pub record IsThreadPushed (old new : List ℕ) (thread : Thread) (stack : List ShownEntry) : Type 0 where
  pub words : List ℕ
  pub new_is : new ≡ old ++ words
  pub is_row : IsThreadRow words thread stack

-- one more thread was read from a row, with its stack
pub record IsThreadRead (row : List ℕ) (old new : ThreadTable) (stack : List ShownEntry) : Type 0 where
  pub thread : Thread
  pub is_row : IsThreadRow row thread stack
  pub after : new ≡ record old { threads = old.threads ++ thread ∷ [] }
