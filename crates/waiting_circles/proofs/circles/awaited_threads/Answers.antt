use Rattle.std.proofs.Common.{◌≤◌, ◌+◌, length, sym, subst, arith}
use Rattle.waiting_circles.proofs.circles.Awaiting.{IsSoFar, none_yet, one_more, all_of_them}
use Rattle.waiting_circles.proofs.circles.awaited_threads.Goals as goal

pub loop-thread-init : goal.loop-thread-init
loop-thread-init c = none_yet c.args.program.now c.args.shared.now c.args.frames _ c.new-nexts.ensures.items

pub loop-thread-preserved : goal.loop-thread-preserved
loop-thread-preserved c =
    subst (IsSoFar c.args.program.now c.args.shared.now c.args.frames (c.loop-thread.thread + 1)) (sym c.in_ok-push.ensures.items)
    (one_more c.args.program.now c.args.shared.now c.args.frames c.loop-thread.thread c.loop-thread.nexts.items c.awaited_thread.result c.loop-thread.invariant c.awaited_thread.ensures)

pub returns : goal.returns
returns c =
    let all : length c.args.shared.now.threads.threads ≤ c.loop-thread.thread = omega (arith, c.loop-thread-test.false, c.len-thread-end.ensures.length) in
    all_of_them c.args.program.now c.args.shared.now c.args.frames c.loop-thread.thread c.loop-thread.nexts.items c.loop-thread.invariant all
