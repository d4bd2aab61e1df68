use Rattle.search.proofs.OwnEdges.{DoNone}
use Rattle.search.proofs.own_edges.names_own_edges.Given as goal

abbrev pub invariant-files : goal.invariant-files
invariant-files l = DoNone l.linked l.number
