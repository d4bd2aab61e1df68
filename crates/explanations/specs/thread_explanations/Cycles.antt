-- Threads that wait for each other (own; JLS 17.1, 17.2.3; JVMS 5.5).
use Rattle.std.specs.Prelude.{◌≡◌, ◌<◌, ℕ, List, [], ◌∷◌, length, Option, Some, slice_get, slice_index}
use Rattle.std.specs.List.{All, AllPairs, Contains}
use Rattle.std.specs.Option.{option_and_then}
use Rattle.explanations.specs.declared.thread_explanations.waits.Wait.{Wait}

-- the thread for which a thread waits, if it waits for one
abbrev pub next_of : List Wait → (thread : ℕ) → Option ℕ
next_of waits thread = option_and_then (λ (wait : Wait). wait.thread) (slice_get waits thread)

-- Each of these threads waits for the next one, the first of them is the one, and the last of them waits for the other one.
abbrev pub IsPath : List Wait → (from : ℕ) → List ℕ → (to : ℕ) → Type 0
IsPath waits from [] to = from ≡ to
IsPath waits from (thread ∷ others) to = (from ≡ thread) × (next : ℕ) × (next_of waits thread ≡ Some next) × IsPath waits next others to

-- these threads have higher numbers
abbrev pub AreAbove : (least : ℕ) → List ℕ → Type 0
AreAbove least [] = Unit {0}
AreAbove least (thread ∷ others) = (least < thread) × AreAbove least others

-- Each of them waits for the next one, and the last for the first, which is the least; there are no more than all threads.
abbrev pub IsCycle : List Wait → List ℕ → Type 0
IsCycle waits [] = ⊥
IsCycle waits (least ∷ others) = IsPath waits least (least ∷ others) least × AreAbove least others × (length others < length waits)

-- the first thread of a cycle is lower than that of another one
abbrev pub IsBefore : (cycle other : List ℕ) → Type 0
IsBefore cycle other = slice_index cycle 0 < slice_index other 0

-- all of them, each once: in the order of their least threads
abbrev pub AreCycles : List Wait → List (List ℕ) → Type 0
AreCycles waits cycles = All (IsCycle waits) cycles × AllPairs IsBefore cycles × ((cycle : List ℕ) → IsCycle waits cycle → Contains cycles cycle)
