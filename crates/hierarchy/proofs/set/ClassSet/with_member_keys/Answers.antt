use Rattle.std.proofs.Common.{sym, subst}
use Rattle.hierarchy.specs.MemberKeys.{HasMemberKeys}
use Rattle.hierarchy.proofs.set.ClassSet.with_member_keys.Goals as goal

pub invariant_of-whole : goal.invariant_of-whole
invariant_of-whole c = record {
  whole = c.whole.invariant.whole;
  named = c.whole.invariant.named;
  lineages = c.whole.invariant.lineages;
  keyed = subst (λ files. HasMemberKeys files c.in_ok-keys.keys.texts c.in_ok-keys.keys.classes.items) (sym c.whole.view_is) c.in_ok-keys.ensures;
}
