use Rattle.std.proofs.Common.{subst}
use Rattle.std.specs.Arc.{arc_value}
use Rattle.model.specs.Classes.{Program}
use Rattle.machine.specs.Machines.{IsProgramOf}
use Rattle.engines.proofs.commands.shrinks.shrunk_over.Goals as goal

pub shrunk_by-requires : goal.shrunk_by-requires
shrunk_by-requires c = subst (λ (t : Program). IsProgramOf t (arc_value c.in_ok-program.program)) c.deref.ensures c.in_ok-program.ensures
