use Rattle.std.proofs.Common.{◌≡◌, take, false}
use Rattle.std.specs.List.{list_any}
use Rattle.classfile.specs.View.{method_of, file_of}
use Rattle.classfile.specs.profile.Faults.{row_of, whole_method_outside_profile, malformed_method_by}
use Rattle.classfile.proofs.profile.walk.first_in_methods.Given as goal

abbrev pub invariant-loop-place : goal.invariant-loop-place
invariant-loop-place l = record {
  inside : list_any (λ m. whole_method_outside_profile (file_of l.file) (method_of m)) (take l.place l.file.methods.items) ≡ false;
  formed : list_any (λ m. malformed_method_by (row_of l.aside) (file_of l.file) (method_of m)) (take l.place l.file.methods.items) ≡ false;
}
