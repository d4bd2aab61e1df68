use Rattle.std.proofs.Common.{◌≡◌, false, take}
use Rattle.place_texts.specs.Reading.{has}
use Rattle.place_texts.proofs.position.first_of.Given as goal

abbrev pub invariant-bytes : goal.invariant-bytes
invariant-bytes l = has l.mark (take l.at l.bytes) ≡ false
