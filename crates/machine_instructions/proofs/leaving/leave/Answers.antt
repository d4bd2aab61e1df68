use Rattle.std.proofs.Common.{[], ◌∷◌}
use Rattle.machine_instructions.proofs.leaving.Left.{left, kept}
use Rattle.machine_instructions.proofs.leaving.leave.Goals as goal

pub returns : goal.returns
returns c =
    left c.args.stack.now c.replace.new.self c.go_on.new.self c.args.count c.next_place-next.result (c.args.word ∷ []) c.next_place-next.ensures
    c.in_ok-replace.ensures.ok c.go_on.ensures

pub returns-in_err-replace : goal.returns-in_err-replace
returns-in_err-replace c =
    kept c.args.stack.now c.replace.new.self c.args.count c.args.word c.from_residual.result c.from_residual.ensures.1 c.in_err-replace.ensures.err c.in_err-replace.ensures.more
