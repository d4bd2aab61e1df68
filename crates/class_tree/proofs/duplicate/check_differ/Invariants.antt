use Rattle.std.proofs.Common.{◌≡◌, true, map, take}
use Rattle.std.specs.List.{list_any}
use Rattle.model.specs.Conditions.{name_and_descriptor_at, differ}
use Rattle.class_tree.specs.declared.duplicate.Firsts.{Firsts}
use Rattle.class_tree.proofs.Differ.{is_key, key_at}
use Rattle.class_tree.proofs.duplicate.check_differ.Given as goal

abbrev pub invariant-members : goal.invariant-members
invariant-members g l =
    let pool = l.firsts in
    let name = g.T.Member.name_index in
    let descriptor = g.T.Member.descriptor_index in
    let before = take l.member-index l.members in
    ((q : Firsts) → list_any (is_key q) l.seen.keys ≡ list_any (λ m. is_key q (key_at pool (name m) (descriptor m))) before)
    × (differ (map (λ m. name_and_descriptor_at pool (name m) (descriptor m)) before) ≡ true)
