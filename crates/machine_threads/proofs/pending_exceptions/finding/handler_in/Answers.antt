use Rattle.std.proofs.Common.{ap, ◌∙◌}
use Rattle.linked_code.specs.Linked.{offset_in}
use Rattle.thread_stacks.specs.Stacks.{shown_frame}
use Rattle.machine_threads.proofs.pending_exceptions.Handled.{handled, unhandled}
use Rattle.machine_threads.proofs.pending_exceptions.finding.handler_in.Goals as goal

-- src/finding.rt:37:1
pub returns-in-Some : goal.returns-in-Some
returns-in-Some c =
    handled c.methods_are_read.ensures.holds c.args.program.now c.args.heap.now.objects c.args.exception (shown_frame c.args.frame.now)
    c.in-Some.code.now c.in-Some.ensures
    c.offset_of-offset.result (c.offset_of-offset.ensures ∙ ap (λ starts. offset_in starts c.args.frame.now.place) c.deref.ensures.value)
    c.deref-in-Some.result.now c.deref-in-Some.ensures.value c.handler_of.result c.handler_of.ensures

-- src/finding.rt:37:1
pub returns-in-None : goal.returns-in-None
returns-in-None c = unhandled c.methods_are_read.ensures.holds c.args.program.now c.args.heap.now.objects c.args.exception (shown_frame c.args.frame.now) c.in-None.ensures
