use Rattle.std.proofs.Common.{◌≤◌, length, arith}
use Rattle.std.proofs.lemmas.Bool.{false≢true}
use Rattle.waiting_circles.proofs.rounds.Ways.{none_first}
use Rattle.waiting_circles.proofs.rounds.has_round.Goals as goal

pub returns : goal.returns
returns c =
    let all : length c.args.nexts.now ≤ c.loop-first.first = omega (arith, c.loop-first-test.false) in (
      λ h. absurd (false≢true h),
      λ h. none_first c.args.nexts.now c.loop-first.first all c.loop-first.invariant,
    )
