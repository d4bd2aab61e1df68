use Rattle.std.proofs.Common.{drop, ap, ◌∙◌}
use Rattle.std.specs.Prelude.{option_to_list}
use Rattle.thread_stacks.specs.Stacks.{returned}
use Rattle.machine_instructions.proofs.returns.Returned.{not_owner, lacks, returns as returned_to}
use Rattle.machine_instructions.proofs.returns.returning.return_from.Goals as goal

pub returns-then-not-may_leave : goal.returns-then-not-may_leave
returns-then-not-may_leave c = λ frames trees bounds inflated state frame rest code site meaning is.
    not_owner trees c.args.program.now bounds inflated c.args.thread c.args.shared.now c.args.stack.now state frame rest code site meaning c.args.value is c.entered_by_top-entered.result c.entered_by_top-entered.ensures frames c.if-not-may_leave.ensures.says

pub returns-in_err-return_under : goal.returns-in_err-return_under
returns-in_err-return_under c = λ frames trees bounds inflated state frame rest code site meaning is.
    lacks trees c.args.program.now bounds inflated c.args.thread c.args.shared.now c.args.stack.now state frame rest code site meaning c.args.value is c.entered_by_top-entered.result c.entered_by_top-entered.ensures frames c.if-not-may_leave.ensures.says
    c.result_of-returns.result c.result_of-returns.ensures c.in_err-return_under.ensures.gives
    c.from_residual.result c.from_residual.ensures.1 c.return_under.new.stack c.in_err-return_under.ensures.err

pub returns : goal.returns
returns c = λ frames trees bounds inflated state frame rest code site meaning is.
    returned_to trees c.args.program.now bounds inflated c.args.thread c.args.shared.now c.args.stack.now state frame rest code site meaning c.args.value is c.entered_by_top-entered.result c.entered_by_top-entered.ensures frames c.if-not-may_leave.ensures.says
    c.next_place_under-next.result c.next_place_under-next.ensures c.leave.new.shared c.leave.ensures c.return_under.new.stack
    (c.in_ok-return_under.ensures.ok ∙ ap (λ result. returned c.next_place_under-next.result (option_to_list result) (drop 1 c.args.stack.now)) c.result_of-returns.ensures)
