use Rattle.std.proofs.Common.{◌++◌, ◌≤◌, ◌<◌, arith, map}
use Rattle.sweeps.specs.Shown.{shown_in}
use Rattle.sweeps.specs.Tallies.{same_in}
use Rattle.sweeps.specs.Texts.{outcome_texts}
use Rattle.sweeps.proofs.Telling.{next_is_near, outcome_step, outcomes_end}
use Rattle.sweeps.proofs.sweep_texts.push_outcomes.Goals as goal

pub loop-same-preserved : goal.loop-same-preserved
loop-same-preserved c =
    let s = c.same-item.result in
    let whole = c.args.text.now.items ++ outcome_texts c.args.all 1 (map same_in c.args.listed.now) in
    rw c.next_number-number.ensures (
      outcome_step c.args.listed.now c.loop-same.same-index s (omega (arith, c.loop-same-test.true)) c.same-item.is c.args.all whole c.loop-same.text.items c.push_same.new.text.items
          c.loop-same.number c.loop-same.invariant.0 c.in_ok-push_same.ensures,
      next_is_near (shown_in s.shown) c.loop-same.number c.loop-same.same-index c.loop-same.invariant.1,
    )

pub returns : goal.returns
returns c = outcomes_end c.args.listed.now c.loop-same.same-index c.args.all c.loop-same.number _ c.loop-same.text.items (omega (arith, c.loop-same-test.false)) c.loop-same.invariant.0
