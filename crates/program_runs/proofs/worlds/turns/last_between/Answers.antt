use Rattle.std.proofs.Common.{◌-◌, subst, arith}
use Rattle.program_runs.specs.worlds.Turns.{MayStep}
use Rattle.program_runs.proofs.worlds.FindingDownwards.{one_more_below, found_last, none_from}
use Rattle.program_runs.proofs.worlds.turns.last_between.Goals as goal

pub returns-then-may : goal.returns-then-may
returns-then-may c =
    found_last c.args.machine.now c.args.from c.threads.thread c.args.to (omega (arith, c.threads-test.true)) (omega (arith, c.threads-test.true)) (omega (arith, c.threads.auto.thread))
    (subst (MayStep c.args.machine.now (c.threads.thread - 1)) c.if-may.true c.may.ensures) c.threads.invariant

pub threads-preserved : goal.threads-preserved
threads-preserved c =
    one_more_below c.args.machine.now c.threads.thread c.args.to (omega (arith, c.threads-test.true)) c.threads.invariant
    (subst (MayStep c.args.machine.now (c.threads.thread - 1)) c.if-may.false c.may.ensures)

pub returns : goal.returns
returns c = none_from c.args.machine.now c.args.from c.threads.thread c.args.to c.threads.invariant (omega (arith, c.threads-test.false))
