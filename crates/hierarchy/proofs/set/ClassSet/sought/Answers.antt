use Rattle.std.proofs.Common.{subst}
use Rattle.hierarchy.specs.MemberKeys.{HasMemberKeys}
use Rattle.hierarchy.proofs.set.ClassSet.sought.Goals as goal

pub new-requires : goal.new-requires
new-requires c =
    let keys = c.self.inside.member_keys in
    subst (λ files. HasMemberKeys files keys.texts keys.classes.items) c.self.view_is c.self.invariant.keyed
