use Rattle.std.proofs.Common.{◌≡◌, take}
use Rattle.kept_states.proofs.shared_rows.are_same_statuses.Given as goal

abbrev pub invariant-statuses : goal.invariant-statuses
invariant-statuses l = take l.place l.one ≡ take l.place l.other
