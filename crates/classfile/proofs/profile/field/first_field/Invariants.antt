use Rattle.std.proofs.Common.{◌≡◌, take, false}
use Rattle.std.specs.List.{list_any}
use Rattle.model.specs.Profile.{field_outside_profile}
use Rattle.classfile.specs.View.{field_of, file_of}
use Rattle.classfile.proofs.profile.field.first_field.Given as goal

abbrev pub invariant-loop-place : goal.invariant-loop-place
invariant-loop-place l = list_any (λ f. field_outside_profile (file_of l.file) (field_of f)) (take l.place l.file.fields.items) ≡ false
