use Rattle.std.proofs.Common.{◌≡◌, false, take}
use Rattle.std.specs.List.{list_any}
use Rattle.next_accesses.specs.racy_states.Racy.{do_conflict}
use Rattle.next_accesses.proofs.racy_states.first_conflict.Given as goal

-- none before it does
abbrev pub invariant-others : goal.invariant-others
invariant-others l = list_any (do_conflict l.action) (take l.at l.others) ≡ false
