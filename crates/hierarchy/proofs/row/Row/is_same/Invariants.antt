use Rattle.std.proofs.Common.{◌≡◌, drop}
use Rattle.hierarchy.proofs.row.Row.is_same.Given as goal

abbrev pub invariant-loop-place : goal.invariant-loop-place
invariant-loop-place l = drop l.place l.self ≡ drop l.place l.other → l.self ≡ l.other
