-- Whose turn it is (own): threads are asked in rotation, by their numbers.
use Rattle.std.specs.Prelude.{◌⊎◌, ◌<◌, ◌≤◌, ◌+◌, ℕ, min, Option, Some, None, Bool, true, false, IsTrue, IsFalse, length}
use Rattle.model.specs.Classes.{Program}
use Rattle.model.specs.Run.{may_step}
use Rattle.model.specs.State.{State}
use Rattle.machine.specs.thread_standings.Standings.{MaySo}
use Rattle.machine.specs.Machines.{MachineOf}

-- ---- in a state

-- none of the threads from a number up to another has an event that is enabled
abbrev pub AreIdle : Program → (frames : ℕ) → State → (from to : ℕ) → Type 0
AreIdle trees frames state from to = (u : ℕ) → from ≤ u → u < to → IsFalse (may_step trees frames state u)

-- The thread has one, and is the first in rotation that has: none between the number at which the rotation begins and it, or, where it
-- lies below that number, none from there up and none below it.
pub record IsNext (trees : Program) (frames : ℕ) (state : State) (from t : ℕ) : Type 0 where
  pub may : IsTrue (may_step trees frames state t)
  pub rotation :
      ((from ≤ t) × AreIdle trees frames state from t)
      ⊎ ((t < from) × AreIdle trees frames state from (length state.world.threads) × AreIdle trees frames state 0 t)

-- ---- of a machine

-- whether a thread has an event that is enabled, in whatever state is shown
abbrev pub MayStep : MachineOf → ℕ → Bool → Type 0
MayStep m t = MaySo m.program m.shared t m.limits.frames

-- there is the thread, and it has one
abbrev pub MayGo : MachineOf → ℕ → Type 0
MayGo m t = (t < length m.shared.threads.threads) × MayStep m t true

-- none of the threads from a number up to another has one
abbrev pub MayNone : MachineOf → (from to : ℕ) → Type 0
MayNone m from to = (u : ℕ) → from ≤ u → u < to → MayStep m u false

-- the first thread from a number up to another that has an event which is enabled
abbrev pub IsFirst : MachineOf → (from to : ℕ) → Option ℕ → Type 0
IsFirst m from to (Some t) = (from ≤ t) × (t < to) × MayStep m t true × MayNone m from t
IsFirst m from to None = MayNone m from to

-- the first in rotation
abbrev pub IsFound : MachineOf → (from : ℕ) → Option ℕ → Type 0
IsFound m from (Some t) =
    (t < length m.shared.threads.threads)
    × MayStep m t true
    × (((from ≤ t) × MayNone m from t) ⊎ ((t < from) × MayNone m from (length m.shared.threads.threads) × MayNone m 0 t))
IsFound m from None = MayNone m 0 (length m.shared.threads.threads)

-- the last thread from a number up to another that has an event which is enabled
abbrev pub IsLast : MachineOf → (from to : ℕ) → Option ℕ → Type 0
IsLast m from to (Some t) = (from ≤ t) × (t < to) × MayStep m t true × MayNone m (t + 1) to
IsLast m from to None = MayNone m from to

-- The first in rotation downwards: there is none between it and the number below which the rotation begins, or, where it doesn't lie below that
-- number, none below that and none above it.
abbrev pub IsFoundDownwards : MachineOf → (number : ℕ) → Option ℕ → Type 0
IsFoundDownwards m number (Some t) =
    (t < length m.shared.threads.threads)
    × MayStep m t true
    × (((t < number) × MayNone m (t + 1) (min number (length m.shared.threads.threads)))
    ⊎ ((number ≤ t) × MayNone m 0 number × MayNone m (t + 1) (length m.shared.threads.threads)))
IsFoundDownwards m number None = MayNone m 0 (length m.shared.threads.threads)
