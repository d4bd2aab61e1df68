use Rattle.std.proofs.Common.{◌≡◌, false, take}
use Rattle.std.specs.List.{list_any}
use Rattle.next_accesses.specs.racy_states.Racy.{do_conflict}
use Rattle.next_accesses.proofs.racy_states.race_among.Given as goal

-- none before it conflicts with any
abbrev pub invariant-actions : goal.invariant-actions
invariant-actions l = list_any (λ a. list_any (do_conflict a) l.actions) (take l.at l.actions) ≡ false
