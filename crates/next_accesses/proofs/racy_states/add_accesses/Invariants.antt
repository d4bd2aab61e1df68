use Rattle.std.proofs.Common.{◌≡◌, ◌++◌, map, take}
use Rattle.next_accesses.specs.racy_states.Racy.{next_of}
use Rattle.next_accesses.proofs.racy_states.add_accesses.Given as goal

-- those so far
abbrev pub invariant-accesses : goal.invariant-accesses
invariant-accesses l = l.found.items ≡ l.initial.found.items ++ map (next_of l.thread) (take l.at l.accesses)
