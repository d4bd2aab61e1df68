use Rattle.std.proofs.Common.{[], ◌∷◌}
use Rattle.machine_instructions.proofs.thread_methods.Moved.{went, kept}
use Rattle.machine_instructions.proofs.thread_methods.moves.answer.Goals as goal

pub returns : goal.returns
returns c =
    went c.args.stack.now c.replace.new.self c.go_on.new.self c.args.operands c.args.next (c.args.word ∷ []) c.in_ok-replace.ensures.ok c.go_on.ensures

pub returns-in_err-replace : goal.returns-in_err-replace
returns-in_err-replace c =
    kept c.from_residual.result c.args.operands c.args.word c.args.next c.args.stack.now c.replace.new.self c.from_residual.ensures.1 c.in_err-replace.ensures.err c.in_err-replace.ensures.more
