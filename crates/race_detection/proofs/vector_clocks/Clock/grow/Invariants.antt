use Rattle.std.proofs.Common.{◌≡◌, ℕ, ◌≤◌, ◌-◌, length, get_or, vec_len}
use Rattle.race_detection.proofs.vector_clocks.Clock.grow.Given as goal

abbrev pub invariant-room : goal.invariant-room
invariant-room l =
    record {
      same : (t : ℕ) → get_or l.self-inside.times.items t 0 ≡ get_or l.fn.self t 0;
      longer : length l.fn.self ≤ length l.self-inside.times.items;
    }

abbrev pub decreases-room : goal.decreases-room
decreases-room l = l.threads - vec_len l.self-inside.times
