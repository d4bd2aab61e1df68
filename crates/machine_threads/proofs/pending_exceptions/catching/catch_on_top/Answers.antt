use Rattle.std.proofs.Common.{ap, subst, ◌∙◌}
use Rattle.thread_stacks.specs.Stacks.{moved, on_top, operands_on, IsMore}
use Rattle.machine_threads.proofs.pending_exceptions.NoRoom.{no_operand}
use Rattle.machine_threads.proofs.pending_exceptions.OnTop.{caught_on, of_error}
use Rattle.machine_threads.proofs.pending_exceptions.catching.catch_on_top.Goals as goal

pub returns-clause-ok : goal.returns-clause-ok
returns-clause-ok c =
    caught_on c.args.stack.now c.replace.new.self c.go_on.new.self c.operand_count-count.result c.args.handler c.args.word c.operand_count-count.ensures c.in_ok-replace.ensures.ok
    (c.go_on.ensures ∙ ap (λ place. on_top (moved place) c.replace.new.self) c.from.ensures)

pub returns-in_err-replace-clause-none : goal.returns-in_err-replace-clause-none
returns-in_err-replace-clause-none c =
    of_error c.from_residual.result
    (λ shown others is. no_operand c.operand_count-count.result shown.operands (c.operand_count-count.ensures ∙ ap operands_on is) (subst (λ xs. IsMore c.operand_count-count.result xs) is c.in_err-replace.ensures.more))
