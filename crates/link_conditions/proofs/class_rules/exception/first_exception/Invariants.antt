use Rattle.std.proofs.Common.{◌≡◌, take, false}
use Rattle.std.specs.List.{list_any}
use Rattle.classfile.specs.View.{method_of, file_of}
use Rattle.link_conditions.specs.class_rules.Finding.{some_entry_in}
use Rattle.link_conditions.proofs.class_rules.exception.first_exception.Given as goal

abbrev pub invariant-loop-place : goal.invariant-loop-place
invariant-loop-place l = list_any (λ m. some_entry_in l.set (file_of l.file) (method_of m)) (take l.place l.file.methods.items) ≡ false
