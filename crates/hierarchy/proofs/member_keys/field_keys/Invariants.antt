use Rattle.std.proofs.Common.{◌≡◌, map, take}
use Rattle.class_tree.specs.View.{field_of}
use Rattle.hierarchy.specs.MemberKeys.{field_key}
use Rattle.hierarchy.proofs.member_keys.field_keys.Given as goal

abbrev pub invariant-loop-field : goal.invariant-loop-field
invariant-loop-field l = l.keys.items ≡ map (λ f. field_key l.numbers (field_of f)) (take l.field-index l.fields)
