use Rattle.std.proofs.Common.{◌≡◌, ◌++◌, take}
use Rattle.kept_states.specs.Rows.{statuses_row}
use Rattle.kept_states.proofs.shared_rows.push_statuses.Given as goal

abbrev pub invariant-statuses : goal.invariant-statuses
invariant-statuses l = l.row.items ≡ l.fn.row.items ++ statuses_row (take l.status-index l.statuses)
