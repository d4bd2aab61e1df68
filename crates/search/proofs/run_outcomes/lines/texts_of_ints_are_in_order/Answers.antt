use Rattle.search.proofs.run_outcomes.IntLines.{in_order_of_ints}
use Rattle.search.proofs.run_outcomes.lines.texts_of_ints_are_in_order.Goals as goal

pub returns : goal.returns
returns c = record { holds = in_order_of_ints }
