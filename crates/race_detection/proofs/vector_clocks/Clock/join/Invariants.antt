use Rattle.std.proofs.Common.{◌≡◌, ℕ, ◌<◌, ◌≤◌, length, max, get_or}
use Rattle.race_detection.proofs.vector_clocks.Clock.join.Given as goal

abbrev pub invariant-threads : goal.invariant-threads
invariant-threads l =
    record {
      joined : (k : ℕ) → k < l.t → get_or l.self-inside.times.items k 0 ≡ max (get_or l.fn.self k 0) (get_or l.fn.other k 0);
      rest : (k : ℕ) → l.t ≤ k → get_or l.self-inside.times.items k 0 ≡ get_or l.fn.self k 0;
      len : length l.self-inside.times.items ≡ length l.fn.self;
    }
