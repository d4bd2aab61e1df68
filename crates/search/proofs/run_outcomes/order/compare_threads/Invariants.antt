use Rattle.std.proofs.Common.{map}
use Rattle.model.specs.Report.{end_state_of}
use Rattle.search.specs.run_outcomes.Outcomes.{end_cmp}
use Rattle.search.proofs.run_outcomes.Places.{AreLevel}
use Rattle.search.proofs.run_outcomes.order.compare_threads.Given as goal

abbrev pub invariant-threads : goal.invariant-threads
invariant-threads l = AreLevel end_cmp (map end_state_of l.one) (map end_state_of l.other) l.at
