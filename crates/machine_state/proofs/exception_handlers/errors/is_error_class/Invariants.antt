use Rattle.std.proofs.Common.{◌-◌}
use Rattle.machine_state.proofs.exception_handlers.Climbing.{Climbs}
use Rattle.machine_state.proofs.exception_handlers.errors.is_error_class.Given as goal

abbrev pub invariant-loop : goal.invariant-loop
invariant-loop l = Climbs l.fn.program l.fn.class l.nearest (l.end - l.counter)
