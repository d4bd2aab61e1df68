use Rattle.std.proofs.Common.{◌≡◌, take}
use Rattle.kept_states.specs.Rows.{statuses_row}
use Rattle.kept_states.proofs.shared_rows.read_statuses.Given as goal

abbrev pub invariant-words : goal.invariant-words
invariant-words l = take l.word-index l.row ≡ statuses_row l.statuses.items
