use Rattle.std.proofs.Common.{◌≤◌, ◌<◌, arith}
use Rattle.sweeps.proofs.Telling.{cut_step, cuts_end}
use Rattle.sweeps.proofs.sweep_texts.push_cuts.Goals as goal

pub loop-same-preserved : goal.loop-same-preserved
loop-same-preserved c =
    cut_step c.args.listed.now c.loop-same.same-index c.same-item.result (omega (arith, c.loop-same-test.true)) c.same-item.is _ c.loop-same.text.items c.push_cut_part.new.text.items
    c.loop-same.invariant c.in_ok-push_cut_part.ensures

pub returns : goal.returns
returns c = cuts_end c.args.listed.now c.loop-same.same-index _ c.loop-same.text.items (omega (arith, c.loop-same-test.false)) c.loop-same.invariant
