use Rattle.std.proofs.Common.{sym}
use Rattle.machine_state.proofs.class_initialisation.Rows.{class_missing, its_initialiser}
use Rattle.machine_state.proofs.class_initialisation.initialisers.initialiser_at.Goals as goal

pub returns-in-None : goal.returns-in-None
returns-in-None c = λ trees program class at. absurd (class_missing c.classes_are_read.ensures.holds trees c.args.program.now program c.args.class class at (sym c.in-None.ensures))

pub returns-in-Some : goal.returns-in-Some
returns-in-Some c = λ trees program class at.
    its_initialiser c.classes_are_read.ensures.holds trees c.args.program.now program c.args.class class at c.in-Some.row.now (sym c.in-Some.ensures)
