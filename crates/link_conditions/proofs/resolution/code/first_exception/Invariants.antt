use Rattle.std.proofs.Common.{◌≡◌, take, false}
use Rattle.std.specs.List.{list_any}
use Rattle.classfile.specs.View.{file_of}
use Rattle.link_conditions.specs.resolution.Unresolved.{exception_stands}
use Rattle.link_conditions.proofs.resolution.code.first_exception.Given as goal

abbrev pub invariant-loop-place : goal.invariant-loop-place
invariant-loop-place l = list_any (exception_stands l.hierarchy (file_of l.file)) (take l.place l.code.exceptions.items) ≡ false
