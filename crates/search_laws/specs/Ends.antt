-- Threads that have ended by an exception, and threads that never end and have no event any more.
use Rattle.std.specs.Prelude.{◌≡◌, ℕ, List, Some, slice_get, IsFalse}
use Rattle.model.specs.declared.event.Event.{Event}
use Rattle.model.specs.Classes.{Program}
use Rattle.model.specs.Meaning.{thread_ends}
use Rattle.model.specs.Names.{Name}
use Rattle.model.specs.Report.{Threw}
use Rattle.model.specs.Run.{run_from}
use Rattle.model.specs.State.{Thread, State}
use Rattle.model.specs.Step.{step}
use Rattle.model.specs.Worlds.{has_ended}
use Rattle.search_laws.specs.KeptStates.{IsReached}
use Rattle.search_laws.specs.Verdicts.{OfWholeSearches, IsMet}

-- the thread has ended by an exception of the class (JLS 11.3)
abbrev pub HasThrown : Program → ℕ → ℕ → Name → State → Type 0
HasThrown files frames t class state = slice_get (thread_ends files frames state) t ≡ Some (Threw class)

-- where some run leads to a state in which a thread has, a kept state is one in which it has
abbrev pub AreExceptionsMet : Type 0
AreExceptionsMet = OfWholeSearches (λ files frames conflict graph.
    (state : State) (t : ℕ) (class : Name) → IsReached files frames state → HasThrown files frames t class state → IsMet graph (HasThrown files frames t class))

-- The thread has not ended, and has no event in any state to which events lead: it is in a deadlock, or waits for what never comes.
pub record IsStuck (files : Program) (frames t : ℕ) (state : State) : Type 0 where
  pub thread : Thread
  pub there : slice_get state.world.threads t ≡ Some thread
  pub lives : IsFalse (has_ended thread.status)
  pub stays : (events : List Event) (later next : State) (pick : ℕ) → run_from files frames state events ≡ Some later
      → step files frames later (record { thread = t; pick = pick }) ≡ Some next → ⊥

abbrev pub AreStuckMet : Type 0
AreStuckMet = OfWholeSearches (λ files frames conflict graph.
    (state : State) (t : ℕ) → IsReached files frames state → IsStuck files frames t state → IsMet graph (IsStuck files frames t))
