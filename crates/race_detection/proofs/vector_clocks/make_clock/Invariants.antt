use Rattle.std.proofs.Common.{◌≡◌, ℕ, ◌≤◌, ◌+◌, ◌-◌, [], length, get_or, vec_len}
use Rattle.race_detection.proofs.vector_clocks.make_clock.Given as goal

abbrev pub invariant-made : goal.invariant-made
invariant-made l =
    record {
      same : (k : ℕ) → get_or l.clocks.items k [] ≡ get_or l.fn.clocks.items k [];
      longer : length l.fn.clocks.items ≤ length l.clocks.items;
    }

abbrev pub decreases-made : goal.decreases-made
decreases-made l = l.index + 1 - vec_len l.clocks
