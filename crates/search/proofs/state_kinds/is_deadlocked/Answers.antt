use Rattle.std.proofs.Common.{sym, ◌∙◌}
use Rattle.search.proofs.StateKinds.{deadlocked, deadlocked_by}
use Rattle.search.proofs.state_kinds.is_deadlocked.Goals as goal

pub returns-then-is_stuck : goal.returns-then-is_stuck
returns-then-is_stuck c = deadlocked c.args.machine.now c.args.outcome.now (sym c.is_stuck.ensures ∙ c.if-is_stuck.true)

pub returns : goal.returns
returns c = λ trees.
    deadlocked_by c.args.machine.now c.args.outcome.now (sym c.is_stuck.ensures ∙ c.if-is_stuck.false) c.in_ok-is_circle.is_circle trees
    (λ files events state done reached. c.in_ok-is_circle.ensures files trees events state done reached)
