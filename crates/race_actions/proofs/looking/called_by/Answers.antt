use Rattle.std.proofs.Common.{◌-◌, ap, subst, ◌∙◌}
use Rattle.thread_stacks.specs.Stacks.{shown_frame}
use Rattle.thread_calls.specs.thread_methods.Called.{TellsMethod}
use Rattle.race_actions.proofs.looking.Parts.{call_known}
use Rattle.race_actions.proofs.looking.called_by.Goals as goal

pub returns : goal.returns
returns c =
    call_known c.args.tables.now.linked.now c.args.program.now c.args.shared.now c.args.thread (shown_frame c.args.frame.now) c.args.instruction c.args.class _ c.is_ready.ensures
    (subst (λ files. TellsMethod files c.args.program.now c.args.shared.now c.args.thread (shown_frame c.args.frame.now) c.args.instruction c.thread_method_called.result)
    c.args.tables.now.calls_are c.thread_method_called.ensures)
    (c.saturating_sub.ensures ∙ ap (λ n. n - 1) c.operand.ensures)
