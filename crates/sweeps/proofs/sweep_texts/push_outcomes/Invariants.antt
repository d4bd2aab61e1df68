use Rattle.std.proofs.Common.{◌≡◌, ◌≤◌, ◌++◌, ◌+◌, drop, map}
use Rattle.sweeps.specs.Tallies.{same_in}
use Rattle.sweeps.specs.Texts.{outcome_texts}
use Rattle.sweeps.proofs.sweep_texts.push_outcomes.Given as goal

-- what has been written, and what is to be written behind it
abbrev pub invariant-loop-same : goal.invariant-loop-same
invariant-loop-same l =
    (l.text.items ++ outcome_texts l.all l.number (map same_in (drop l.same-index l.listed)) ≡ l.fn.text.items ++ outcome_texts l.all 1 (map same_in l.listed))
    × (l.number ≤ l.same-index + 1)
