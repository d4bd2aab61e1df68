use Rattle.std.proofs.Common.{◌≡◌, drop, map}
use Rattle.std.specs.List.{list_any}
use Rattle.model.specs.Profile.{is_left_out_constant}
use Rattle.classfile.specs.View.{field_part_of}
use Rattle.classfile.proofs.profile.field.has_left_out_constant.Given as goal

abbrev pub invariant-loop-attribute : goal.invariant-loop-attribute
invariant-loop-attribute l =
    list_any (is_left_out_constant l.file.pool) (map field_part_of l.attributes) ≡ list_any (is_left_out_constant l.file.pool) (map field_part_of (drop l.attribute-index l.attributes))
