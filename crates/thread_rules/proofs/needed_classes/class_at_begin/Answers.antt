use Rattle.thread_rules.proofs.needed_classes.Needed.{first_begins, others_begin}
use Rattle.thread_rules.proofs.needed_classes.class_at_begin.Goals as goal

pub returns-then-thread-eq-MAIN_THREAD : goal.returns-then-thread-eq-MAIN_THREAD
returns-then-thread-eq-MAIN_THREAD c =
    first_begins c.args.program.now c.args.thread c.first_class.result c.if-thread-eq-MAIN_THREAD.true c.first_class.ensures

pub returns-else-thread-eq-MAIN_THREAD : goal.returns-else-thread-eq-MAIN_THREAD
returns-else-thread-eq-MAIN_THREAD c = others_begin c.args.program.now c.args.thread c.if-thread-eq-MAIN_THREAD.false
