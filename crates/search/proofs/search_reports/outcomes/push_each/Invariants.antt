use Rattle.std.proofs.Common.{◌≡◌, ◌++◌, map, take}
use Rattle.search.specs.run_outcomes.Outcomes.{told_by}
use Rattle.search.specs.search_reports.Reports.{outcome_texts}
use Rattle.search.proofs.search_reports.outcomes.push_each.Given as goal

abbrev pub invariant-loop-at : goal.invariant-loop-at
invariant-loop-at l = l.text.items ≡ l.fn.text.items ++ outcome_texts 1 (map told_by (take l.at l.outcomes))
