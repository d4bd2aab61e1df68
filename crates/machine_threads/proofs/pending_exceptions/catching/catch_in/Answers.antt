use Rattle.machine_threads.proofs.pending_exceptions.Caught.{catches, uncaught}
use Rattle.machine_threads.proofs.pending_exceptions.catching.catch_in.Goals as goal

-- src/catching.rt:50:1
pub returns : goal.returns
returns c = λ trees p bounds inflated world r there shown others is frame rest shows under offset place.
    catches trees p bounds inflated world c.args.shared.now r shown others frame rest shows under c.args.thread c.args.handler c.args.exception c.word_of-word.result offset place
    (c.word_of-word.ensures.there (there c.word_of-word.ensures.bound))
    c.clear_pending.new.shared c.clear_pending.ensures c.catch_on_top.new.stack (c.in_ok-catch_on_top.ensures.ok shown others is)

pub returns-in_err-catch_on_top : goal.returns-in_err-catch_on_top
returns-in_err-catch_on_top c = λ trees p bounds inflated world r there shown others is frame rest shows under offset place.
    uncaught trees p bounds inflated world c.args.shared.now r shown others frame rest shows under c.args.thread c.args.exception offset c.args.stack.now is
    (c.in_err-catch_on_top.ensures.none shown others is) c.from_residual.result c.from_residual.ensures.1 c.catch_on_top.new.stack c.in_err-catch_on_top.ensures.err
