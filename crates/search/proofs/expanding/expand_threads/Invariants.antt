use Rattle.search.specs.Walks.{IsThere}
use Rattle.search.proofs.Expanded.{HasGrown, IsThreadMet}
use Rattle.search.proofs.expanding.expand_threads.Given as goal

abbrev pub invariant-threads : goal.invariant-threads
invariant-threads l = HasGrown (IsThreadMet l.number) l.most l.fn.walk.states l.walk.states l.thread × IsThere l.walk.states l.number l.walk
