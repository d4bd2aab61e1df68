use Rattle.std.proofs.Common.{ℕ, ◌<◌, List}
use Rattle.waiting_circles.specs.Rounds.{IsRound}
use Rattle.waiting_circles.proofs.rounds.has_round.Given as goal

abbrev pub invariant-loop-first : goal.invariant-loop-first
invariant-loop-first l = (k : ℕ) → k < l.first → (others : List ℕ) → IsRound l.nexts k others → ⊥
