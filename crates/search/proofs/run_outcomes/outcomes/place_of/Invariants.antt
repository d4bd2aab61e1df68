use Rattle.std.proofs.Common.{map}
use Rattle.search.specs.run_outcomes.Outcomes.{told_by}
use Rattle.search.proofs.run_outcomes.Places.{IsBehind}
use Rattle.search.proofs.run_outcomes.outcomes.place_of.Given as goal

abbrev pub invariant-listed : goal.invariant-listed
invariant-listed l = IsBehind (map told_by l.listed) (told_by l.outcome) l.at
