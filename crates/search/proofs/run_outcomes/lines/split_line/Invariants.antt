use Rattle.std.proofs.Common.{take}
use Rattle.std.specs.List.{All}
use Rattle.search.proofs.run_outcomes.LineLaws.{EndsNoLine}
use Rattle.search.proofs.run_outcomes.lines.split_line.Given as goal

abbrev pub invariant-units : goal.invariant-units
invariant-units l = All EndsNoLine (take l.at l.text)
