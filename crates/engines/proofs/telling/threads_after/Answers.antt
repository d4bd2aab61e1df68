use Rattle.std.proofs.Common.{sym, subst}
use Rattle.std.specs.Arc.{arc_value}
use Rattle.model.specs.Classes.{Program}
use Rattle.machine.specs.Machines.{IsProgramOf}
use Rattle.engines.proofs.telling.threads_after.Goals as goal

pub explain_threads-requires : goal.explain_threads-requires
explain_threads-requires c = subst (λ (t : Program). IsProgramOf t (arc_value c.in_ok-program.program)) (sym c.linked.ensures.same) c.in_ok-program.ensures
