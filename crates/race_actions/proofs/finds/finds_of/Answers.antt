use Rattle.race_actions.proofs.finds.Finding.{told_by_call, told_by_rule}
use Rattle.race_actions.proofs.finds.finds_of.Goals as goal

pub returns-in-Bytecode : goal.returns-in-Bytecode
returns-in-Bytecode c = told_by_call c.args.shared.now c.args.thread c.args.rule c.args.called c.found_by_call.result c.in-Bytecode.is c.found_by_call.ensures

pub returns-in_default : goal.returns-in_default
returns-in_default c =
    told_by_rule c.args.shared.now c.args.thread c.args.rule c.args.called c.found_by_rule.result (λ e. c.in_default.not-Bytecode e) c.found_by_rule.ensures
