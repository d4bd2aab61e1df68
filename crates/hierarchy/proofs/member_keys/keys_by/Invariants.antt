use Rattle.std.proofs.Common.{◌≡◌, length}
use Rattle.hierarchy.specs.MemberKeys.{HasMemberKeys}
use Rattle.hierarchy.proofs.member_keys.keys_by.Given as goal

abbrev pub invariant-loop-place : goal.invariant-loop-place
invariant-loop-place l = record {
  keyed : HasMemberKeys l.set l.texts l.classes.items;
  count : l.place ≡ length l.classes.items;
}
