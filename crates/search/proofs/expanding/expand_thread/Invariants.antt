use Rattle.search.specs.Walks.{IsThere}
use Rattle.search.proofs.Expanded.{HasGrown, IsPickMet}
use Rattle.search.proofs.expanding.expand_thread.Given as goal

abbrev pub invariant-picks : goal.invariant-picks
invariant-picks l = HasGrown (IsPickMet l.number l.thread) l.most l.fn.walk.states l.walk.states l.pick × IsThere l.walk.states l.number l.walk
