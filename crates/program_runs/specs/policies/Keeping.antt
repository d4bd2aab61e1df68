-- What the code keeps of a policy from turn to turn, in the words of its definition (own).
use Rattle.std.specs.Prelude.{ℕ, ◌==◌, Bool, true, false, Option, Some, None, if◌then◌else◌}
use Rattle.rand_core.specs.Steps.{stream_of, steps_u64_high}
use Rattle.rand_xoshiro.specs.Xoshiro256.{plus_plus}
use Rattle.machine.specs.Machines.{MachineOf}
use Rattle.program_runs.specs.continued_runs.Turns.{behind}
use Rattle.program_runs.specs.declared.policies.mixed.Mixed.{Mixed as TheMixed}
use Rattle.program_runs.specs.declared.policies.turn_order.Direction.{Direction}
use Rattle.program_runs.specs.declared.policies.turn_order.Direction.TheVariants as direction
use Rattle.program_runs.specs.declared.policies.turn_lengths.Turn.{Turn}
use Rattle.program_runs.specs.declared.policies.turn_lengths.Turn.TheVariants as turn
use Rattle.program_runs.specs.policies.Runs.{Mixed, pick_of, waiting_in}
use Rattle.program_runs.specs.worlds.Turns.{IsFound, IsFoundDownwards}

abbrev pub is_down : Direction → Bool
is_down direction.Upwards = false
is_down direction.Downwards = true

abbrev pub kept_by : TheMixed → Mixed
kept_by m =
    record {
      words = stream_of (steps_u64_high plus_plus) m.random;
      exponent = m.lengths.n;
      down = is_down m.direction;
      main_first = m.lengths.is_main_first;
      same = m.lengths.same;
      another = m.lengths.another;
      last = m.last;
    }

-- whose turn it is, where the turn before was that of the first of them
abbrev pub turn_for : (last : Option ℕ) → (t : ℕ) → Turn
turn_for None t = turn.First
turn_for (Some last) t = if last == t then turn.Same else turn.Another

-- a waiter is drawn, of as many as wait in what a machine shows
abbrev pub drawn_pick : MachineOf → Mixed → ℕ × Mixed
drawn_pick m kept =
    let drawn = pick_of (waiting_in m.shared.threads.threads) kept.words in
    (drawn.0, record kept { words = drawn.1 })

-- the first thread in rotation that has an event which is enabled, behind that of the last turn
abbrev pub IsFoundBehind : MachineOf → (down : Bool) → (last : Option ℕ) → Option ℕ → Type 0
IsFoundBehind m down None r = IsFound m 0 r
IsFoundBehind m false (Some t) r = IsFound m (behind t) r
IsFoundBehind m true (Some t) r = IsFoundDownwards m t r
