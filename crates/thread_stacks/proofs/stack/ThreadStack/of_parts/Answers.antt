use Rattle.std.proofs.Common.{arith}
use Rattle.thread_stacks.proofs.Whole.{all_read}
use Rattle.thread_stacks.proofs.stack.ThreadStack.of_parts.Goals as goal

pub invariant_of-result : goal.invariant_of-result
invariant_of-result c =
    all_read c.args.entries.items c.args.words.items c.entries.entry-index c.len-used.result c.entries.left c.entries.frames
    (omega arith) (omega (arith, c.len-used.ensures, c.args.words.ok)) (omega arith) c.entries.invariant
