use Rattle.std.proofs.Common.{◌+◌, None, arith, refl}
use Rattle.program_runs.proofs.policies.Mixing.{rotation_next, rotation_next_appends}
use Rattle.program_runs.proofs.policies.Turning.{far_at_first, far_behind, on_if, through_at_last, through_if}
use Rattle.program_runs.proofs.policies.rotation.run_rotation.Goals.{else-turns-test, then-turns-test+else-is_some+else-counter-end}
use Rattle.program_runs.proofs.policies.rotation.run_rotation.Goals as goal

pub turns-init : goal.turns-init
turns-init g c =
    far_at_first (rotation_next c.args.quantum) (rotation_next_appends c.args.quantum) (g.G.Gate.may_stop c.args.gate.now) c.args.world.now None None refl c.requires.on c.requires.none

pub turns-preserved : goal.turns-preserved
turns-preserved g c =
    far_behind (rotation_next c.args.quantum) (rotation_next_appends c.args.quantum) (g.G.Gate.may_stop c.args.gate.now) c.args.world.now None c.turns.world c.turns.last c.turns.counter c.turns.invariant
    c.take_turn-last.new.world c.behind_turn.new.world c.take_turn-last.result
    (on_if c.turns.world c.end.result c.end.ensures.is c.is_some.result c.is_some.ensures c.if-is_some.false)
    (omega (arith, c.turns-test.true, c.budget-end.ensures)) c.take_turn-last.ensures.does c.take_turn-last.ensures.kept c.behind_turn.ensures

pub returns-then-is_some-clause-through : goal.returns-then-is_some-clause-through
returns-then-is_some-clause-through g c =
    through_if (rotation_next c.args.quantum) (rotation_next_appends c.args.quantum) (g.G.Gate.may_stop c.args.gate.now) c.args.world.now None c.turns.world c.turns.last c.turns.counter c.turns.invariant
    c.end.result c.end.ensures.is c.is_some.result c.is_some.ensures c.if-is_some.true

pub returns-clause-through : goal.returns-clause-through
returns-clause-through g c = elim c.turns-test.branch [
  | else-turns-test w ↦
      through_at_last (rotation_next c.args.quantum) (rotation_next_appends c.args.quantum) (g.G.Gate.may_stop c.args.gate.now) c.args.world.now None c.turns.world c.turns.last c.turns.counter c.turns.invariant
      (omega (arith, w.turns-test.false, c.budget-end.ensures)) c.turns-test.world w.world-is c.end-2.ensures.holds
  | then-turns-test+else-is_some+else-counter-end w ↦
      through_at_last (rotation_next c.args.quantum) (rotation_next_appends c.args.quantum) (g.G.Gate.may_stop c.args.gate.now) c.args.world.now None w.behind_turn.new.world w.take_turn-last.result (c.turns.counter + 1)
      (far_behind (rotation_next c.args.quantum) (rotation_next_appends c.args.quantum) (g.G.Gate.may_stop c.args.gate.now) c.args.world.now None c.turns.world c.turns.last c.turns.counter c.turns.invariant
      w.take_turn-last.new.world w.behind_turn.new.world w.take_turn-last.result
      (on_if c.turns.world w.end.result w.end.ensures.is w.is_some.result w.is_some.ensures w.if-is_some.false)
      (omega (arith, w.turns-test.true, c.budget-end.ensures)) w.take_turn-last.ensures.does w.take_turn-last.ensures.kept w.behind_turn.ensures)
      (omega (arith, c.budget-end.ensures)) c.turns-test.world w.world-is c.end-2.ensures.holds
]
