use Rattle.std.proofs.Common.{map, sym, subst}
use Rattle.search.specs.run_outcomes.Outcomes.{told_by, AreInOrder}
use Rattle.search.proofs.run_outcomes.Lists.{none_in_order}
use Rattle.search.proofs.run_outcomes.outcomes.Outcomes.new.Goals as goal

pub invariant_of-result : goal.invariant_of-result
invariant_of-result c = subst (λ l. AreInOrder (map told_by l)) (sym c.new.ensures.items) none_in_order
