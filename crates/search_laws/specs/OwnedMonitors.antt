-- Events of a thread on a monitor that it owns (JLS 17.1): it leaves it, or enters it again.
use Rattle.std.specs.Prelude.{◌≡◌, ℕ, List, ◌∷◌, Some, None, Bool, slice_get, IsTrue}
use Rattle.model.specs.declared.instr.Instr.TheVariants as instr
use Rattle.model.specs.declared.instr.Returned.{Returned}
use Rattle.model.specs.declared.value.Value.{Value}
use Rattle.model.specs.Accepted.{IsAccepted}
use Rattle.model.specs.Classes.{Program, Body, body_of}
use Rattle.model.specs.Meanings.{meaning_of}
use Rattle.model.specs.Operands.{values}
use Rattle.model.specs.Sites.{MeaningOf, Site, site_at, referent}
use Rattle.model.specs.State.{Running, Frame, StackEntryOf, Invocation, StackOf, State}
use Rattle.model.specs.Step.{ops_of, step}
use Rattle.model.specs.Worlds.{thread_at, is_owner}
use Rattle.search_laws.specs.Alone.{passing, next_event, IsAlone, HaveSameWords}
use Rattle.search_laws.specs.KeptStates.{IsReached}
use Rattle.search_laws.specs.OwnEvents.{IsFreeOf}

-- the thread runs, and is to do this instruction
pub record IsAt (files : Program) (state : State) (t : ℕ) : Type 0 where
  pub frame : Frame
  pub stack : StackOf Value
  pub status : (thread_at state.world t).status ≡ Running
  pub pending : (thread_at state.world t).pending ≡ None
  pub there : slice_get state.stacks t ≡ Some (Invocation frame ∷ stack)
  pub body : Body
  pub is_body : body_of files frame.method ≡ Some body
  pub site : Site
  pub is_site : site_at frame.method body frame.place.offset ≡ Some site
  pub meaning : MeaningOf Value
  pub means : meaning_of values files site ≡ Some meaning

-- monitorexit, monitorenter, or a return from a synchronized method that is not the first one of the thread (JVMS 6.5, 2.11.10)
pub data IsToUse (files : Program) (state : State) (t r : ℕ) : Type 0 where
  Exits : (at : IsAt files state t) → at.site.instr ≡ instr.MonitorExit
      → referent values (ops_of values at.meaning at.frame.place.slots) 0 ≡ Some r → IsToUse files state t r
  Enters : (at : IsAt files state t) → at.site.instr ≡ instr.MonitorEnter
      → referent values (ops_of values at.meaning at.frame.place.slots) 0 ≡ Some r → IsToUse files state t r
  Returns : (at : IsAt files state t) (kind : Returned) → at.site.instr ≡ instr.Return kind → at.frame.entered ≡ Some r
      → (entry : StackEntryOf Value) (rest : StackOf Value) → at.stack ≡ entry ∷ rest → IsToUse files state t r

-- such an event is alone
abbrev pub AreOwnedMonitorsAlone : Type 0
AreOwnedMonitorsAlone =
    (files : List (List ℕ)) (trees : Program) → IsAccepted files trees → (frames : ℕ) (conflict : State → ℕ → ℕ → Bool) (state next : State)
    → IsReached trees frames state → (t r : ℕ) → IsTrue (is_owner state.world t r) → IsToUse trees state t r → IsFreeOf trees frames conflict state t
    → step trees frames state (next_event t) ≡ Some next
    → IsAlone trees frames (passing conflict) (HaveSameWords trees) state t next
