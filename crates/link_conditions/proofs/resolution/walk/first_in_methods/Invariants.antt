use Rattle.std.proofs.Common.{◌≡◌, take, false}
use Rattle.std.specs.List.{list_any}
use Rattle.classfile.specs.View.{method_of, file_of}
use Rattle.link_conditions.specs.resolution.Unresolved.{is_method_unresolved}
use Rattle.link_conditions.proofs.resolution.walk.first_in_methods.Given as goal

abbrev pub invariant-loop-place : goal.invariant-loop-place
invariant-loop-place l = list_any (λ m. is_method_unresolved l.hierarchy (file_of l.file) (method_of m)) (take l.place l.file.methods.items) ≡ false
