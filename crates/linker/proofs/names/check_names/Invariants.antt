use Rattle.std.proofs.Common.{◌≡◌, false, take}
use Rattle.std.specs.List.{list_any}
use Rattle.model.specs.Resolution.{is_unresolved}
use Rattle.linker.proofs.names.check_names.Given as goal

abbrev pub invariant-loop-number : goal.invariant-loop-number
invariant-loop-number l = list_any (is_unresolved l.hierarchy) (take l.number l.hierarchy) ≡ false
