-- A thread that has left a wait set enters the monitor again (JLS 17.2.1), in whatever state is shown.
use Rattle.std.specs.Prelude.{◌≡◌, ℕ, ◌<◌, List, Result}
use Rattle.model.specs.Operands.{words}
use Rattle.model.specs.BuiltInNumbers.{most_threads}
use Rattle.model.specs.Classes.{Program}
use Rattle.model.specs.State.{WakeCause, Relock, StackOf, StateOf}
use Rattle.model.specs.LimitStands.{Bounds}
use Rattle.model.specs.Step.{thread_at, relock_event}
use Rattle.linked_code.specs.declared.program.LinkedProgram.{LinkedProgram}
use Rattle.thread_stacks.specs.Stacks.{ShownEntry}
use Rattle.machine_state.specs.declared.answers.Answer.{Answer}
use Rattle.machine_state.specs.declared.refusals.EventRefusal.{EventRefusal}
use Rattle.machine_state.specs.declared.state.Shared.{Shared}
use Rattle.machine_state.specs.Shown.{IsProgram, IsLent}
use Rattle.machine_state.specs.Events.{Becomes}

-- A thread, whose stack is lent, has left the wait set of an object, where it had entered the monitor so often.
pub record HasLeft (trees : Program) (p : LinkedProgram) (bounds : Bounds) (inflated : List ℕ) (t object count : ℕ) (cause : WakeCause)
    (shared : Shared) (stack : List ShownEntry) (state : StateOf ℕ) (own : StackOf ℕ) : Type 0 where
  pub program : IsProgram trees p
  pub lent : IsLent trees p bounds inflated t shared stack state own
  pub status : (thread_at state.world t).status ≡ Relock object count cause

-- so it is in some state of some files
pub record IsToRelock (p : LinkedProgram) (t object count : ℕ) (cause : WakeCause) (shared : Shared)
    (stack : List ShownEntry) : Type 0 where
  pub trees : Program
  pub bounds : Bounds
  pub inflated : List ℕ
  pub state : StateOf ℕ
  pub own : StackOf ℕ
  pub left : HasLeft trees p bounds inflated t object count cause shared stack state own
  pub numbered : t < most_threads

-- in whatever state the thread has left it, the result says what becomes of its event
abbrev pub RelocksIn : LinkedProgram → (t object count : ℕ) → WakeCause → Result Answer EventRefusal → (old new : Shared)
    (from to : List ShownEntry) → Type 0
RelocksIn p t object count cause result old new from to =
    (trees : Program) (bounds : Bounds) (inflated : List ℕ) (state : StateOf ℕ) (own : StackOf ℕ) → HasLeft trees p bounds inflated t object count cause old from state own
    → Becomes trees p bounds inflated state.world (relock_event words trees t object count cause state.world own) result old new from to
