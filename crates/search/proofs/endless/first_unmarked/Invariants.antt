use Rattle.std.proofs.Common.{◌<◌, ℕ}
use Rattle.std.specs.Prelude.{IsTrue}
use Rattle.search.specs.Edges.{is_marked}
use Rattle.search.proofs.endless.first_unmarked.Given as goal

abbrev pub invariant-numbers : goal.invariant-numbers
invariant-numbers l = (node : ℕ) → node < l.number → IsTrue (is_marked l.marks node)
