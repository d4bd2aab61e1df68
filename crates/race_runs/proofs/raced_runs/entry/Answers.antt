use Rattle.std.proofs.Common.{arith}
use Rattle.race_runs.proofs.raced_runs.Passed.{begins}
use Rattle.race_runs.proofs.raced_runs.Entries.{once_more, no_more, all_of_entry}
use Rattle.race_runs.proofs.raced_runs.entry.Goals as goal

pub events-init : goal.events-init
events-init c = begins c.args.machine.now c.args.finder.now

pub returns-in_default : goal.returns-in_default
returns-in_default c =
    no_more c.args.given.event c.events.done c.args.machine.now c.events.machine c.event.new.machine c.args.finder.now c.events.finder c.event.new.finder c.events.invariant
    c.args.given.repeat c.events-test.true c.in_ok-why.why c.in_default.not-Most c.in_ok-why.ensures

pub events-preserved : goal.events-preserved
events-preserved c =
    once_more c.args.given.event c.events.done c.args.machine.now c.events.machine c.event.new.machine c.args.finder.now c.events.finder c.event.new.finder c.events.invariant
    c.in_ok-why.why c.in-Most.is c.in_ok-why.ensures

pub returns : goal.returns
returns c =
    all_of_entry c.args.given.event c.events.done c.args.given.repeat c.args.machine.now c.events.machine c.args.finder.now c.events.finder
    (omega (arith, c.events.auto.done-end, c.events-test.false)) c.events.invariant
