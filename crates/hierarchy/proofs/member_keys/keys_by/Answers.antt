use Rattle.std.proofs.Common.{◌∙◌, ◌+◌, ◌∷◌, [], length-append, sym, ap, subst, length}
use Rattle.std.specs.Prelude.{IfSome}
use Rattle.class_tree.specs.View.{file_of}
use Rattle.hierarchy.specs.MemberKeys.{HasKeys, HasMemberKeys}
use Rattle.hierarchy.proofs.KeyLaws.{keys_more}
use Rattle.hierarchy.proofs.member_keys.keys_by.Goals as goal

pub loop-place-preserved : goal.loop-place-preserved
loop-place-preserved c =
    let files = c.args.set.now in
    let texts = c.args.texts.now in
    let table = c.loop-place.classes.items in
    let file = file_of c.in-Some.file.now in
    let keys = c.in-Some-2.keys in
    record {
      keyed =
          subst (HasMemberKeys files texts) (sym c.in_ok-push.ensures.items)
          (keys_more files texts table c.loop-place.place keys file c.loop-place.invariant.count (sym c.in-Some.ensures) (subst (λ o. IfSome o (HasKeys texts file)) c.in-Some-2.is c.in_ok-keys.ensures) c.loop-place.invariant.keyed);
      count = ap (λ n. n + 1) c.loop-place.invariant.count ∙ sym (length-append table (keys ∷ [])) ∙ sym (ap length c.in_ok-push.ensures.items);
    }
