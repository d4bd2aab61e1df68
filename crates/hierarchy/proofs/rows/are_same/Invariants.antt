use Rattle.std.proofs.Common.{◌≡◌, drop}
use Rattle.hierarchy.proofs.rows.are_same.Given as goal

abbrev pub invariant-loop-place : goal.invariant-loop-place
invariant-loop-place l = drop l.place l.rows ≡ drop l.place l.others → l.rows ≡ l.others
