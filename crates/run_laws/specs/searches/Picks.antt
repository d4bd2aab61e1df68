-- Which picks are enabled (own; JLS 17.2.2).
use Rattle.std.specs.Prelude.{◌≤◌, ℕ, IsTrue}
use Rattle.model.specs.Classes.{Program}
use Rattle.model.specs.State.{State}
use Rattle.model.specs.Step.{is_enabled}

-- where an event of a thread is enabled, so is the one with each lower pick
abbrev pub ArePicksInOrder : Type 0
ArePicksInOrder =
    (files : Program) (frames : ℕ) (state : State) (t low high : ℕ) → low ≤ high
    → IsTrue (is_enabled files frames state (record { thread = t; pick = high }))
    → IsTrue (is_enabled files frames state (record { thread = t; pick = low }))
