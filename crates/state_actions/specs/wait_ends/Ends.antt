-- The last actions of a thread, and the waits that its end ends.
use Rattle.std.specs.Prelude.{◌≡◌, ℕ, ◌≤◌, List, ◌++◌, Bool, ◌==◌, IsTrue, length, map}
use Rattle.std.specs.List.{filter, list_any}
use Rattle.model.specs.Rows.{counting}
use Rattle.model.specs.State.{Waiter, Thread, World}
use Rattle.model.specs.Worlds.{thread_at, waiters_of}
use Rattle.model.specs.WellTyped.{are_wait_sets}
use Rattle.race_places.specs.declared.run_actions.Action.{Action}
use Rattle.race_places.specs.named_actions.Names.{Names, named_action}
use Rattle.data_races.specs.EventActions.{end_actions}
use Rattle.event_laws.specs.event_changes.Changes.{WakesWaiters}

abbrev pub threads_of : List Waiter → List ℕ
threads_of waiters = map (λ (waiter : Waiter). waiter.thread) waiters

abbrev pub is_listed : List ℕ → ℕ → Bool
is_listed threads t = list_any (λ other. other == t) threads

-- the threads of a list, in the order of their numbers, of so many threads
abbrev pub listed_below : List ℕ → ℕ → List ℕ
listed_below threads count = filter (is_listed threads) (counting 0 count)

-- the worlds before and after an event, of a thread that wakes the members of a wait set if it ends
pub record EndsWaits (t : ℕ) (waiting : List ℕ) (old new : World) : Type 0 where
  pub listed : waiting ≡ threads_of (waiters_of old (thread_at old t).object)
  -- what a wait set has are threads that wait
  pub wait_sets : IsTrue (are_wait_sets old.threads 0 old.monitors)
  pub wakes : WakesWaiters t old new
  -- no thread is gone
  pub kept : length old.threads ≤ length new.threads

-- by whatever names, the last actions of the thread stand behind those that were told before
pub record TellsEnd (t : ℕ) (waiting : List ℕ) (threads : List Thread) (before after : List Action) : Type 0 where
  pub told : List Action
  pub behind : after ≡ before ++ told
  pub are : (names : Names) (old new : World) → threads ≡ new.threads → EndsWaits t waiting old new → map (named_action names) told ≡ end_actions t old new
