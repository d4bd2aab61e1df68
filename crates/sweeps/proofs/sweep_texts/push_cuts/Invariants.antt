use Rattle.std.proofs.Common.{◌≡◌, ◌++◌, drop, map}
use Rattle.sweeps.specs.Tallies.{same_in}
use Rattle.sweeps.specs.Texts.{cut_texts}
use Rattle.sweeps.proofs.sweep_texts.push_cuts.Given as goal

abbrev pub invariant-loop-same : goal.invariant-loop-same
invariant-loop-same l = l.text.items ++ cut_texts (map same_in (drop l.same-index l.listed)) ≡ l.fn.text.items ++ cut_texts (map same_in l.listed)
