-- What is drawn for an event of the policy random (own).
use Rattle.std.specs.Prelude.{◌≡◌, ℕ, List, Option, Some, None, length, min, slice_get, slice_index}
use Rattle.std.specs.List.{filter}
use Rattle.rand_core.specs.Steps.{stream_of, steps_u64_high}
use Rattle.rand_core.specs.Stream.{Stream}
use Rattle.rand_xoshiro.specs.Xoshiro256.{plus_plus}
use Rattle.model.specs.Classes.{Program}
use Rattle.model.specs.LimitStands.{Bounds}
use Rattle.model.specs.Operands.{words}
use Rattle.model.specs.Rows.{counting}
use Rattle.model.specs.State.{StateOf}
use Rattle.run_laws.specs.word_reports.Reports.{may_step_of}
use Rattle.machine_state.specs.Shown.{IsProgram}
use Rattle.machine_state.specs.state_events.Whole.{IsShown}
use Rattle.machine.specs.Machines.{MachineOf}
use Rattle.program_runs.specs.policies.Draws.{below}
use Rattle.program_runs.specs.policies.Picks.{PicksOf}
use Rattle.program_runs.specs.policies.Runs.{pick_of}
use Rattle.program_runs.specs.worlds.Turns.{MayNone}

-- the words of a generator from a state of it on
abbrev pub words_after : List ℕ → Stream
words_after random = stream_of (steps_u64_high plus_plus) random

-- the threads below a number that have an event which is enabled
abbrev pub able_below : MachineOf → Program → StateOf ℕ → ℕ → List ℕ
able_below m trees state n = filter (may_step_of words trees m.limits.frames state) (counting 0 n)

abbrev pub able_in : MachineOf → Program → StateOf ℕ → List ℕ
able_in m trees state = able_below m trees state (length m.shared.threads.threads)

-- in whatever state is shown
abbrev pub InShown : MachineOf → (Program → StateOf ℕ → Type 0) → Type 0
InShown m P =
    (trees : Program) (bounds : Bounds) (inflated : List ℕ) (state : StateOf ℕ) → IsProgram trees m.program → IsShown trees m.program bounds inflated m.shared state
    → P trees state

-- so many threads have one
abbrev pub AreAble : MachineOf → (count : ℕ) → Type 0
AreAble m count = InShown m (λ trees state. count ≡ length (able_in m trees state))

-- the one of this place among them
abbrev pub IsAbleAt : MachineOf → (place : ℕ) → Option ℕ → Type 0
IsAbleAt m place found = InShown m (λ trees state. found ≡ slice_get (able_in m trees state) place)

-- one of some threads, and what is left to draw from
abbrev pub drawn_of : List ℕ → Stream → ℕ × Stream
drawn_of able s = (slice_index able (below (length able) s).0, (below (length able) s).1)

-- one of them is drawn, if there is one
abbrev pub IsDrawn : MachineOf → (old : List ℕ) → Option ℕ → (new : List ℕ) → Type 0
IsDrawn m old None new = MayNone m 0 (length m.shared.threads.threads)
IsDrawn m old (Some t) new = InShown m (λ trees state. (t, words_after new) ≡ drawn_of (able_in m trees state) (words_after old))

-- one of the waiters is drawn that its next event may wake
pub record IsPickDrawn (m : MachineOf) (t : ℕ) (old : List ℕ) (pick : ℕ) (new : List ℕ) : Type 0 where
  pub waiters : ℕ
  pub picks : PicksOf m t waiters
  pub drawn : (pick, words_after new) ≡ pick_of (min waiters (length m.shared.threads.threads)) (words_after old)
