-- Calls and returns, told by what an event did to the stack of its thread (JVMS 2.6.4, 2.6.5).
use Rattle.std.specs.Prelude.{◌≡◌, ℕ, suc, List, ◌∷◌, Some, None, Bool, length, slice_get}
use Rattle.model.specs.declared.value.Value.{Value}
use Rattle.model.specs.Accepted.{IsAccepted}
use Rattle.model.specs.Classes.{Program}
use Rattle.model.specs.State.{Running, Frame, StackEntryOf, Invocation, StackOf, State}
use Rattle.model.specs.Step.{step}
use Rattle.model.specs.Worlds.{thread_at}
use Rattle.search_laws.specs.Alone.{passing, next_event, IsAlone, HaveSameWords}
use Rattle.search_laws.specs.KeptStates.{IsReached}
use Rattle.search_laws.specs.OwnEvents.{IsFreeOf}

-- A frame has called another one, which entered no monitor; or it has returned to what stood below it, and had entered none.
pub data HasMoved (frame : Frame) (below after : StackOf Value) : Type 0 where
  Called : (callee : Frame) (rest : StackOf Value) → after ≡ Invocation callee ∷ rest → callee.entered ≡ None
      → length rest ≡ suc (length below) → HasMoved frame below after
  Returned : (entry : StackEntryOf Value) (rest : StackOf Value) → after ≡ entry ∷ rest → frame.entered ≡ None
      → suc (length rest) ≡ length below → HasMoved frame below after

-- the thread ran in a frame, with no exception pending, and has moved
pub record IsMove (state : State) (t : ℕ) (next : State) : Type 0 where
  pub frame : Frame
  pub below : StackOf Value
  pub there : slice_get state.stacks t ≡ Some (Invocation frame ∷ below)
  pub status : (thread_at state.world t).status ≡ Running
  pub pending : (thread_at state.world t).pending ≡ None
  pub after : StackOf Value
  pub is_after : slice_get next.stacks t ≡ Some after
  pub moved : HasMoved frame below after

-- such an event is alone
abbrev pub AreMovesAlone : Type 0
AreMovesAlone =
    (files : List (List ℕ)) (trees : Program) → IsAccepted files trees → (frames : ℕ) (conflict : State → ℕ → ℕ → Bool) (state next : State)
    → IsReached trees frames state → (t : ℕ) → IsMove state t next → IsFreeOf trees frames conflict state t
    → step trees frames state (next_event t) ≡ Some next
    → IsAlone trees frames (passing conflict) (HaveSameWords trees) state t next
