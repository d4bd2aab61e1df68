use Rattle.std.proofs.Common.{◌≡◌, take}
use Rattle.kept_states.proofs.shared_rows.read_units.Given as goal

abbrev pub invariant-words : goal.invariant-words
invariant-words l = l.units.items ≡ take l.word-index l.row
