use Rattle.std.proofs.Common.{◌≡◌, drop, map}
use Rattle.std.specs.List.{list_any}
use Rattle.constant_pool.specs.descriptors.View.{field_of}
use Rattle.link_conditions.specs.resolution.Rows.{names_missing}
use Rattle.link_conditions.proofs.resolution.descriptor.any_missing.Given as goal

abbrev pub invariant-loop-field : goal.invariant-loop-field
invariant-loop-field l = list_any (names_missing l.set) (map field_of l.fields) ≡ list_any (names_missing l.set) (map field_of (drop l.field-index l.fields))
