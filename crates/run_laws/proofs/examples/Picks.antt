-- A pick of 1 or more is not 0.
use Rattle.std.proofs.Common.{◌≡◌, ℕ, suc, false, ◌==◌}
use Rattle.std.proofs.Math.Dec.{eqb-suc-zero}

pub is_none : (pick : ℕ) → (suc pick == 0) ≡ false
is_none pick = eqb-suc-zero pick
