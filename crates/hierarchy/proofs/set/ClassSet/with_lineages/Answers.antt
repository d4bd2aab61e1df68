use Rattle.std.proofs.Common.{sym, subst}
use Rattle.hierarchy.specs.Lineages.{HasLineages}
use Rattle.hierarchy.proofs.set.ClassSet.with_lineages.Goals as goal

pub invariant_of-whole : goal.invariant_of-whole
invariant_of-whole c = record {
  whole = c.whole.invariant.whole;
  named = c.whole.invariant.named;
  lineages = subst (λ files. HasLineages files c.in_ok-lineages.lineages.items) (sym c.whole.view_is) c.in_ok-lineages.ensures;
  keyed = c.whole.invariant.keyed;
}
