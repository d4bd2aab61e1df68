use Rattle.next_accesses.specs.racy_states.Racy.{AreNext}
use Rattle.next_accesses.proofs.racy_states.next_accesses.Given as goal

-- those of the threads so far
abbrev pub invariant-threads : goal.invariant-threads
invariant-threads l = AreNext l.tables.linked.now l.program l.shared l.thread l.found.items
