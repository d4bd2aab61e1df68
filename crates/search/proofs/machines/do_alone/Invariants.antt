use Rattle.std.proofs.Common.{◌≤◌, ◌*◌}
use Rattle.search.specs.Machines.{GoesAlone}
use Rattle.search.proofs.machines.do_alone.Given as goal

abbrev pub invariant-rounds : goal.invariant-rounds
invariant-rounds l = GoesAlone l.event l.count l.initial.machine l.machine × (l.count ≤ 1025 * l.round)
