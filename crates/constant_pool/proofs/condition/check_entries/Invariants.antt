use Rattle.std.proofs.Common.{◌≡◌, true, take}
use Rattle.std.specs.List.{list_all}
use Rattle.constant_pool.specs.View.{entry_of}
use Rattle.constant_pool.proofs.condition.check_entries.Given as goal

abbrev pub invariant-constants : goal.invariant-constants
invariant-constants g l = list_all (λ x. g.C.Condition.is_met l.condition (entry_of x)) (take l.constant-index l.constants) ≡ true
