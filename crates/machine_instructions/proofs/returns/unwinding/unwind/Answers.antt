use Rattle.std.proofs.Common.{drop, refl}
use Rattle.model.specs.Operands.{words}
use Rattle.model.specs.State.{Invocation}
use Rattle.model.specs.Step.{leaving}
use Rattle.machine_instructions.proofs.returns.Exits.{under_shown, top_not_owned, top_ends, raised_done, raise_refused}
use Rattle.machine_instructions.proofs.returns.unwinding.unwind.Goals as goal

-- src/unwinding.rt:25:9
pub returns-in_err-raise : goal.returns-in_err-raise
returns-in_err-raise c = λ trees p bounds inflated world r frame rest shows.
    raise_refused trees p bounds inflated world c.args.shared.now c.raise.new.shared c.args.thread rest (drop 1 c.args.stack.now) (leaving words trees c.args.thread frame.entered world rest rest)
    (top_not_owned trees p bounds inflated world c.args.shared.now r c.args.thread c.args.stack.now frame rest shows c.entered_by_top-entered.result c.entered_by_top-entered.ensures c.if-not-may_leave.ensures.says)
    c.in_err-raise.field-0.0 (c.in_err-raise.ensures trees p bounds inflated world r refl (drop 1 c.args.stack.now) rest (under_shown trees p c.args.stack.now (Invocation frame) rest shows))
    c.args.stack.now c.from_residual.result c.from_residual.ensures.1

-- src/unwinding.rt:27:9
pub returns-then-not-may_leave : goal.returns-then-not-may_leave
returns-then-not-may_leave c = λ trees p bounds inflated world r frame rest shows.
    raised_done trees p bounds inflated world c.args.shared.now c.raise.new.shared c.args.thread rest (drop 1 c.args.stack.now) (leaving words trees c.args.thread frame.entered world rest rest)
    (top_not_owned trees p bounds inflated world c.args.shared.now r c.args.thread c.args.stack.now frame rest shows c.entered_by_top-entered.result c.entered_by_top-entered.ensures c.if-not-may_leave.ensures.says)
    c.in_ok-raise.field-0 (c.in_ok-raise.ensures trees p bounds inflated world r refl (drop 1 c.args.stack.now) rest (under_shown trees p c.args.stack.now (Invocation frame) rest shows))
    c.drop_top.new.self c.drop_top.ensures

-- src/unwinding.rt:16:1
pub returns : goal.returns
returns c = λ trees p bounds inflated world r frame rest shows.
    top_ends trees p bounds inflated world c.args.shared.now r c.args.thread c.args.stack.now frame rest shows c.entered_by_top-entered.result c.entered_by_top-entered.ensures c.if-not-may_leave.ensures.says
    c.leave.new.shared c.leave.ensures c.drop_top-2.new.self c.drop_top-2.ensures
