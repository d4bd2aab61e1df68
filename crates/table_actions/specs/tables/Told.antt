-- What is told of threads by the tables of threads and monitors, and of which world that is so.
use Rattle.std.specs.Prelude.{◌≡◌, ℕ, List, [], ◌∷◌, ◌++◌, Option, Some, None, not, map, length, ◌≤◌, ◌+◌}
use Rattle.model.specs.State.{World}
use Rattle.model.specs.BuiltInMethods.{BuiltInMethod, ThreadStart, ThreadInterrupt, ThreadIsInterrupted, ThreadJoin, ThreadIsAlive}
use Rattle.heap.specs.Heap.{Heap}
use Rattle.heap.specs.java_threads.Table.{ThreadTable}
use Rattle.race_places.specs.declared.run_actions.Action.{Action}
use Rattle.race_places.specs.named_actions.Names.{Names, named_action}
use Rattle.data_races.specs.Actions as named
use Rattle.data_races.specs.Actions.{Action as NamedAction}
use Rattle.data_races.specs.EventActions.{found_alive, found_status, found_by_join, is_over, only_if}
use Rattle.table_actions.specs.declared.findings.Findings.{Findings}

-- the monitors and the threads of a world
pub record AreOf (heap : Heap) (table : ThreadTable) (world : World) : Type 0 where
  pub monitors : heap.locks.monitors ≡ world.monitors
  pub threads : table.threads ≡ world.threads

abbrev pub listed : Option Action → List Action
listed None = []
listed (Some action) = action ∷ []

abbrev pub all_found : Findings → List Action
all_found findings = listed findings.own ++ listed findings.other

-- by whatever names, these are the actions that the definitions have in a world of these tables
abbrev pub Tells : Heap → ThreadTable → List Action → (World → List NamedAction) → Type 0
Tells heap table told actions =
    (names : Names) (world : World) → AreOf heap table world → map (named_action names) told ≡ actions world

-- what is found on the Thread object of a thread that was started
abbrev pub found_of : World → (t u : ℕ) → BuiltInMethod → List NamedAction
found_of world t u ThreadStart = named.FindStarted u ∷ []
found_of world t u ThreadInterrupt = found_alive world u
found_of world t u ThreadIsInterrupted = found_status world u
found_of world t u ThreadJoin = found_by_join world t u
found_of world t u ThreadIsAlive = found_alive world u
found_of world t u _ = []

-- a thread that has ended isn't interrupted
abbrev pub interrupt_of : World → ℕ → List NamedAction
interrupt_of world u = only_if (not (is_over world u)) (named.Interrupt u ∷ [])

-- at most one thread is started
pub record MayStartOne (old new : World) : Type 0 where
  pub kept : length old.threads ≤ length new.threads
  pub one : length new.threads ≤ length old.threads + 1
