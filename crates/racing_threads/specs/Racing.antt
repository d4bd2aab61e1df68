-- Threads whose next events race (JLS 17.4.1, 17.4.5): what a search takes for a conflict.
use Rattle.std.specs.Prelude.{ℕ, Bool}
use Rattle.model.specs.Classes.{Program}
use Rattle.model.specs.State.{State}
use Rattle.data_races.specs.Races.{next_actions, have_conflict}

-- the next events of both threads, each of them enabled, do conflicting accesses
abbrev pub are_racing : Program → ℕ → State → ℕ → ℕ → Bool
are_racing files frames state t u = have_conflict files (next_actions files frames state t) (next_actions files frames state u)
