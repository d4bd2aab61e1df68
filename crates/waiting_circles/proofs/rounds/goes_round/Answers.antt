use Rattle.std.proofs.Common.{◌≤◌, length, sym, arith}
use Rattle.std.proofs.lemmas.Bool.{false≢true, true≢false}
use Rattle.waiting_circles.proofs.rounds.Ways.{begins, goes_on, goes_for_ever, ends}
use Rattle.waiting_circles.proofs.rounds.goes_round.Goals as goal

pub loop-step-init : goal.loop-step-init
loop-step-init c = begins c.args.nexts.now c.args.first

pub returns-in_default : goal.returns-in_default
returns-in_default c = (
  λ h. absurd (false≢true h),
  λ h others round. ends c.args.nexts.now c.args.first c.loop-step.at c.loop-step.step c.loop-step.invariant (sym c.in_default.ensures) others round,
)

pub loop-step-preserved : goal.loop-step-preserved
loop-step-preserved c = goes_on c.args.nexts.now c.args.first c.loop-step.at c.loop-step.step c.in-Some.next c.loop-step.invariant (sym c.in-Some.ensures)

pub returns-in-Some-next_in : goal.returns-in-Some-next_in
returns-in-Some-next_in c =
    let all : length c.args.nexts.now ≤ c.loop-step.step = omega (arith, c.loop-step-test.false) in (
      λ h. goes_for_ever c.args.nexts.now c.args.first c.loop-step.at c.loop-step.step c.in-Some-next_in.field-0 c.loop-step.invariant all (sym c.in-Some-next_in.ensures),
      λ h. absurd (true≢false h),
    )

pub returns-in-None : goal.returns-in-None
returns-in-None c = (
  λ h. absurd (false≢true h),
  λ h others round. ends c.args.nexts.now c.args.first c.loop-step.at c.loop-step.step c.loop-step.invariant (sym c.in-None.ensures) others round,
)
