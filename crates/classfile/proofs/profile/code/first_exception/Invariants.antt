use Rattle.std.proofs.Common.{◌≡◌, take, false}
use Rattle.std.specs.List.{list_any}
use Rattle.model.specs.CodeConditions.{malformed_exception}
use Rattle.classfile.specs.View.{code_of}
use Rattle.classfile.proofs.profile.code.first_exception.Given as goal

abbrev pub invariant-loop-place : goal.invariant-loop-place
invariant-loop-place l = list_any (malformed_exception (code_of l.code)) (take l.place l.code.exceptions.items) ≡ false
