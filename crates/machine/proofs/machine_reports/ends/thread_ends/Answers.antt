use Rattle.std.proofs.Common.{◌<◌, ◌≤◌, ◌+◌, length, map, sym, ap, subst, arith}
use Rattle.model.specs.Report.{end_state_of}
use Rattle.machine.proofs.machine_reports.Firsts.{TellFirst, tell_more, tell_all}
use Rattle.machine.proofs.machine_reports.ends.thread_ends.Goals as goal

pub loop-thread-init : goal.loop-thread-init
loop-thread-init c = λ bounds inflated state program shown. ap (map end_state_of) c.new-ends.ensures.items

pub loop-thread-preserved : goal.loop-thread-preserved
loop-thread-preserved c =
    let within : c.loop-thread.thread < length c.args.shared.now.threads.threads = omega (arith, c.loop-thread-test.true, c.len-thread-end.ensures.length) in
    subst (TellFirst c.args.classes.now c.args.program.now c.args.shared.now c.args.frames (c.loop-thread.thread + 1)) (sym c.in_ok-push.ensures.items)
    (tell_more c.args.classes.now c.args.program.now c.args.shared.now c.args.frames c.loop-thread.thread c.loop-thread.ends.items c.standing_of-standing.result c.in_ok-end_state.field-0 within
    c.loop-thread.invariant c.standing_of-standing.ensures c.in_ok-end_state.ensures)

pub returns : goal.returns
returns c =
    let all : length c.args.shared.now.threads.threads ≤ c.loop-thread.thread = omega (arith, c.loop-thread-test.false, c.len-thread-end.ensures.length) in
    tell_all c.args.classes.now c.args.program.now c.args.shared.now c.args.frames c.loop-thread.thread c.loop-thread.ends.items all c.loop-thread.invariant
