-- Events by which a thread leaves a monitor, told by who owns it before and after (JLS 17.1; JVMS 2.11.10).
use Rattle.std.specs.Prelude.{◌≡◌, ◌≤◌, ℕ, List, ◌∷◌, Some, None, Bool, length, slice_get, IsTrue, IsFalse}
use Rattle.model.specs.declared.value.Value.{Value}
use Rattle.model.specs.Accepted.{IsAccepted}
use Rattle.model.specs.Classes.{Program}
use Rattle.model.specs.State.{Running, Frame, StackEntryOf, Invocation, StackOf, State}
use Rattle.model.specs.Step.{step}
use Rattle.model.specs.Worlds.{thread_at, is_owner}
use Rattle.search_laws.specs.Alone.{passing, next_event, IsAlone, HaveSameWords}
use Rattle.search_laws.specs.KeptStates.{IsReached}
use Rattle.search_laws.specs.OwnEvents.{IsFreeOf}

-- The thread ran in a frame, with no exception pending, and owned the monitor of an object. It owns it no more, and runs on, with no
-- exception pending, and no more entries on its stack.
pub record IsRelease (state : State) (t r : ℕ) (next : State) : Type 0 where
  pub frame : Frame
  pub below : StackOf Value
  pub there : slice_get state.stacks t ≡ Some (Invocation frame ∷ below)
  pub status : (thread_at state.world t).status ≡ Running
  pub pending : (thread_at state.world t).pending ≡ None
  pub owned : IsTrue (is_owner state.world t r)
  pub left : IsFalse (is_owner next.world t r)
  pub runs : (thread_at next.world t).status ≡ Running
  pub calm : (thread_at next.world t).pending ≡ None
  pub entry : StackEntryOf Value
  pub rest : StackOf Value
  pub is_after : slice_get next.stacks t ≡ Some (entry ∷ rest)
  pub no_deeper : length rest ≤ length below

-- such an event is alone
abbrev pub AreReleasesAlone : Type 0
AreReleasesAlone =
    (files : List (List ℕ)) (trees : Program) → IsAccepted files trees → (frames : ℕ) (conflict : State → ℕ → ℕ → Bool) (state next : State)
    → IsReached trees frames state → (t r : ℕ) → IsRelease state t r next → IsFreeOf trees frames conflict state t
    → step trees frames state (next_event t) ≡ Some next
    → IsAlone trees frames (passing conflict) (HaveSameWords trees) state t next
