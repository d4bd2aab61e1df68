use Rattle.std.proofs.Common.{◌+◌, arith}
use Rattle.program_runs.specs.policies.Drawn.{words_after}
use Rattle.program_runs.specs.policies.Runs.{random_turn, words_of}
use Rattle.program_runs.proofs.policies.Mixing.{random_appends}
use Rattle.program_runs.proofs.policies.Turning.{far_at_first, far_behind_if, on_if, through_at_last, through_if}
use Rattle.program_runs.proofs.policies.random.run_random.Goals.{else-turns-test, then-turns-test+else-is_some+in_ok-take_turn+else-counter-end}
use Rattle.program_runs.proofs.policies.random.run_random.Goals as goal

pub turns-init : goal.turns-init
turns-init g c =
    far_at_first random_turn random_appends (g.G.Gate.may_stop c.args.gate.now) c.args.world.now (words_of c.args.seed) (words_after c.words_of_seed-random.result) c.words_of_seed-random.ensures c.requires.on c.requires.none

pub turns-preserved : goal.turns-preserved
turns-preserved g c =
    far_behind_if random_turn random_appends (g.G.Gate.may_stop c.args.gate.now) c.args.world.now (words_of c.args.seed) c.turns.world (words_after c.turns.random) c.turns.counter c.turns.invariant
    c.take_turn.new.world c.behind_turn.new.world (words_after c.take_turn.new.random)
    (on_if c.turns.world c.end.result c.end.ensures.is c.is_some.result c.is_some.ensures c.if-is_some.false)
    (omega (arith, c.turns-test.true, c.budget-end.ensures)) c.in_ok-take_turn.ensures.does c.in_ok-take_turn.ensures.kept c.behind_turn.ensures

pub returns-then-is_some-clause-through : goal.returns-then-is_some-clause-through
returns-then-is_some-clause-through g c =
    through_if random_turn random_appends (g.G.Gate.may_stop c.args.gate.now) c.args.world.now (words_of c.args.seed) c.turns.world (words_after c.turns.random) c.turns.counter c.turns.invariant
    c.end.result c.end.ensures.is c.is_some.result c.is_some.ensures c.if-is_some.true

pub returns-clause-through : goal.returns-clause-through
returns-clause-through g c = elim c.turns-test.branch [
  | else-turns-test w ↦
      through_at_last random_turn random_appends (g.G.Gate.may_stop c.args.gate.now) c.args.world.now (words_of c.args.seed) c.turns.world (words_after c.turns.random) c.turns.counter c.turns.invariant
      (omega (arith, w.turns-test.false, c.budget-end.ensures)) c.turns-test.world w.world-is c.end-2.ensures.holds
  | then-turns-test+else-is_some+in_ok-take_turn+else-counter-end w ↦
      through_at_last random_turn random_appends (g.G.Gate.may_stop c.args.gate.now) c.args.world.now (words_of c.args.seed) w.behind_turn.new.world (words_after w.take_turn.new.random) (c.turns.counter + 1)
      (far_behind_if random_turn random_appends (g.G.Gate.may_stop c.args.gate.now) c.args.world.now (words_of c.args.seed) c.turns.world (words_after c.turns.random) c.turns.counter c.turns.invariant
      w.take_turn.new.world w.behind_turn.new.world (words_after w.take_turn.new.random)
      (on_if c.turns.world w.end.result w.end.ensures.is w.is_some.result w.is_some.ensures w.if-is_some.false)
      (omega (arith, w.turns-test.true, c.budget-end.ensures)) w.in_ok-take_turn.ensures.does w.in_ok-take_turn.ensures.kept w.behind_turn.ensures)
      (omega (arith, c.budget-end.ensures)) c.turns-test.world w.world-is c.end-2.ensures.holds
]
