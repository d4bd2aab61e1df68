use Rattle.thread_rules.proofs.needed_classes.Needed.{super_next, end_next}
use Rattle.thread_rules.proofs.needed_classes.class_in_phase.Goals as goal

pub returns-in-Super : goal.returns-in-Super
returns-in-Super c = super_next c.args.program.now c.args.class c.args.phase c.class_before.result c.in-Super.is c.class_before.ensures

pub returns-in-End : goal.returns-in-End
returns-in-End c = end_next c.args.program.now c.args.class c.args.phase c.in-End.is
