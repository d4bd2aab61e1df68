use Rattle.thread_stacks.specs.Stacks.{shown_frame}
use Rattle.race_actions.proofs.looking.Parts.{by_frame, by_none, by_other}
use Rattle.race_actions.proofs.looking.standing_by.Goals as goal

pub returns-in-Some : goal.returns-in-Some
returns-in-Some c =
    by_frame c.args.tables.now.linked.now c.args.program.now c.args.shared.now c.args.thread c.args.stack.now c.args.rule c.standing_in.result c.in-Bytecode.is (shown_frame c.in-Some.frame)
    c.in-Some.ensures c.standing_in.ensures

pub returns-in-None : goal.returns-in-None
returns-in-None c =
    by_none c.args.tables.now.linked.now c.args.program.now c.args.shared.now c.args.thread c.args.stack.now c.args.rule c.standing_nowhere.result c.in-Bytecode.is c.in-None.ensures

pub returns-in_default : goal.returns-in_default
returns-in_default c =
    by_other c.args.tables.now.linked.now c.args.program.now c.args.shared.now c.args.thread c.args.stack.now c.args.rule c.standing_nowhere-in_default.result
    (λ e. c.in_default.not-Bytecode e) c.standing_nowhere-in_default.ensures
