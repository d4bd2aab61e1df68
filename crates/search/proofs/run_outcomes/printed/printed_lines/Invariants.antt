use Rattle.std.proofs.Common.{◌≡◌, take}
use Rattle.search.specs.run_outcomes.Outcomes.{printed_text}
use Rattle.search.proofs.run_outcomes.printed.printed_lines.Given as goal

abbrev pub invariant-loop-number : goal.invariant-loop-number
invariant-loop-number l = l.lines.items ≡ printed_text (take l.number-index l.numbers)
