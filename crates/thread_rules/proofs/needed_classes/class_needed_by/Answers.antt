use Rattle.thread_rules.proofs.needed_classes.Needed.{no_event}
use Rattle.thread_rules.proofs.needed_classes.class_needed_by.Goals as goal

pub returns-in-NoEvent : goal.returns-in-NoEvent
returns-in-NoEvent c = no_event c.args.program.now c.args.thread c.args.by_instruction c.args.rule c.in-NoEvent.is
