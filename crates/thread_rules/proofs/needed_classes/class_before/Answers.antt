use Rattle.std.proofs.Common.{sym}
use Rattle.machine_state.proofs.class_initialisation.Rows.{class_missing, none_before, super_before}
use Rattle.thread_rules.proofs.needed_classes.class_before.Goals as goal

pub returns-in-None : goal.returns-in-None
returns-in-None c = λ trees program class at. absurd (class_missing c.classes_are_read.ensures.holds trees c.args.program.now program c.args.class class at (sym c.in-None.ensures))

pub returns-then-row : goal.returns-then-row
returns-then-row c = λ trees program class at.
    none_before c.classes_are_read.ensures.holds trees c.args.program.now program c.args.class class at c.in-Some.row.now (sym c.in-Some.ensures) c.if-row.true

pub returns-else-row : goal.returns-else-row
returns-else-row c = λ trees program class at.
    super_before c.classes_are_read.ensures.holds trees c.args.program.now program c.args.class class at c.in-Some.row.now (sym c.in-Some.ensures) c.if-row.false
