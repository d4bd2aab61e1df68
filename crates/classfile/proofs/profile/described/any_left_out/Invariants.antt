use Rattle.std.proofs.Common.{◌≡◌, drop, map}
use Rattle.std.specs.List.{list_any}
use Rattle.model.specs.Descriptors.{FieldType}
use Rattle.model.specs.Profile.{is_left_out_element}
use Rattle.constant_pool.specs.descriptors.View.{field_of}
use Rattle.classfile.proofs.profile.described.any_left_out.Given as goal

abbrev pub invariant-loop-field : goal.invariant-loop-field
invariant-loop-field l =
    list_any (λ (f : FieldType). is_left_out_element f.element) (map field_of l.fields) ≡ list_any (λ (f : FieldType). is_left_out_element f.element) (map field_of (drop l.field-index l.fields))
