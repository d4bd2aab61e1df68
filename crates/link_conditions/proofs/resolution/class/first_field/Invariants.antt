use Rattle.std.proofs.Common.{◌≡◌, take, false}
use Rattle.std.specs.List.{list_any}
use Rattle.classfile.specs.View.{field_of, file_of}
use Rattle.link_conditions.specs.resolution.Unresolved.{field_stands}
use Rattle.link_conditions.proofs.resolution.class.first_field.Given as goal

abbrev pub invariant-loop-place : goal.invariant-loop-place
invariant-loop-place l = list_any (λ f. field_stands l.set (file_of l.file) (field_of f)) (take l.place l.file.fields.items) ≡ false
