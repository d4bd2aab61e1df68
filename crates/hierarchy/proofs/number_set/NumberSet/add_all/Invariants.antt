use Rattle.std.proofs.Common.{◌≡◌, drop}
use Rattle.hierarchy.specs.Numbers.{with_numbers}
use Rattle.hierarchy.proofs.number_set.NumberSet.add_all.Given as goal

abbrev pub invariant-loop-place : goal.invariant-loop-place
invariant-loop-place l = with_numbers l.self (drop l.place l.row) ≡ with_numbers l.initial.self l.row
