-- A cycle that is sought from its least thread on. No public clause cites this module.
use Rattle.std.specs.Prelude.{◌≡◌, ℕ, List, ◌∷◌, Option, Some, None, Vec}
use Rattle.std.specs.Global.{Global}
use Rattle.explanations.specs.declared.thread_explanations.waits.Wait.{Wait}
use Rattle.explanations.specs.thread_explanations.Cycles.{IsCycle}

-- this is its least thread, and where there is no cycle, none has it
abbrev pub IsFoundFrom : List Wait → (least : ℕ) → Option (Vec ℕ Global) → Type 0
IsFoundFrom waits least (Some cycle) = (others : List ℕ) × (cycle.items ≡ least ∷ others) × IsCycle waits (least ∷ others)
IsFoundFrom waits least None = (others : List ℕ) → IsCycle waits (least ∷ others) → ⊥
