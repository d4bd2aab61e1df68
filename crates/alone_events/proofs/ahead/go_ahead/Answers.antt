use Rattle.std.proofs.Common.{subst}
use Rattle.alone_events.specs.Ahead.{DoesOrStays, IsOwned, IsLikely, Tells}
use Rattle.alone_events.specs.Seen.{RunsInFrame}
use Rattle.alone_events.proofs.Told.{goes_by}
use Rattle.alone_events.proofs.ahead.go_ahead.Goals as goal

pub returns : goal.returns
returns c =
    let before = c.in-Some.before in
    let likely = subst (IsLikely c.shared.result.now c.args.thread) c.in-Some.is c.seen_before.ensures in
    goes_by c.args.thread c.args.machine.now c.is_done.new.machine (subst (λ b. DoesOrStays b c.args.thread c.args.machine.now c.is_done.new.machine) c.if-not-is_done.false c.is_done.ensures)
    c.moves_are_alone.ensures.holds c.releases_are_alone.ensures.holds before (subst (λ s. RunsInFrame s c.args.thread before.frame) c.shared.ensures.same likely.0)
    (subst (λ s. IsOwned s c.args.thread before.left) c.shared.ensures.same likely.1) c.told.result
    (subst (λ s. Tells c.told.result before s c.args.thread) c.shared-2.ensures.same c.told.ensures)
