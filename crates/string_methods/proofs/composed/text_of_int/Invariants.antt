use Rattle.std.proofs.Common.{◌≡◌, ◌≤◌, length, take}
use Rattle.std.specs.Vec.{vec_len, vec_capacity}
use Rattle.string_methods.proofs.composed.text_of_int.Given as goal

abbrev pub invariant-loop-digit : goal.invariant-loop-digit
invariant-loop-digit l =
    (l.units.items ≡ take l.digit-index l.digits)
    × (vec_len l.units ≡ l.digit-index)
    × (length l.digits ≤ vec_capacity l.units)
