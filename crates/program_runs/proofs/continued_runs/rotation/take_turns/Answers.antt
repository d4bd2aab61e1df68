use Rattle.program_runs.proofs.worlds.Finishing.{smaller}
use Rattle.program_runs.proofs.continued_runs.Turning.{over_if, none_of, turned_some}
use Rattle.program_runs.proofs.continued_runs.rotation.take_turns.Goals as goal

pub returns-then-is_some : goal.returns-then-is_some
returns-then-is_some g c = over_if c.args.world.now c.turns.world c.turns.from c.turns.invariant c.end.result c.end.ensures.is c.is_some.result c.is_some.ensures c.if-is_some.true

pub turns-smaller-in-Some : goal.turns-smaller-in-Some
turns-smaller-in-Some g c =
    smaller c.turns.world c.shared_steps.new.self c.turns.from 1 c.shared_steps.result c.end.ensures.holds
    (none_of c.turns.world c.end.result c.end.ensures.is c.is_some.result c.is_some.ensures c.if-is_some.false) c.shared_steps.ensures

pub turns-preserved-in-Some : goal.turns-preserved-in-Some
turns-preserved-in-Some g c =
    turned_some c.args.world.now c.turns.world c.turns.from c.turns.invariant c.end.ensures.holds c.shared_steps.new.self c.shared_steps.result c.in-Some.thread c.in-Some.is
    (none_of c.turns.world c.end.result c.end.ensures.is c.is_some.result c.is_some.ensures c.if-is_some.false) c.shared_steps.ensures

pub turns-smaller : goal.turns-smaller
turns-smaller g c =
    smaller c.turns.world c.shared_steps.new.self c.turns.from 1 c.shared_steps.result c.end.ensures.holds
    (none_of c.turns.world c.end.result c.end.ensures.is c.is_some.result c.is_some.ensures c.if-is_some.false) c.shared_steps.ensures
