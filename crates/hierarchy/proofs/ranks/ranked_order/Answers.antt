use Rattle.std.proofs.Common.{◌∙◌, sym}
use Rattle.std.proofs.lemmas.Bool.{not-true}
use Rattle.hierarchy.proofs.ranks.ranked_order.Goals as goal

pub returns-then-are_ranked : goal.returns-then-are_ranked
returns-then-are_ranked c = record { ranks = c.deref-2.result.now; ranked = not-true _ (sym c.are_ranked.ensures ∙ c.if-are_ranked.true) }
