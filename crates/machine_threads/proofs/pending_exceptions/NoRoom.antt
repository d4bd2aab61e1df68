-- A frame in which the word of an exception has no room.
use Rattle.std.proofs.Common.{◌≡◌, ℕ, suc, ◌-◌, ◌<◌, List, length, drop, arith}
use Rattle.std.proofs.lemmas.List.{length-drop}

-- it has no operand
pub no_operand : (count : ℕ) (operands : List ℕ) → count ≡ length operands → length operands < suc (length (drop count operands))
    → length operands ≡ 0
no_operand count operands all more =
    let left : length (drop count operands) ≡ length operands - count = length-drop count operands in
    omega (arith, all, more, left)
