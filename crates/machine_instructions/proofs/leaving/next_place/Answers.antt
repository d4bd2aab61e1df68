use Rattle.std.proofs.Common.{◌≡◌, ap, arith}
use Rattle.thread_stacks.specs.Stacks.{shown_frame}
use Rattle.thread_stacks.proofs.Found.{one_top, not_none}
use Rattle.machine_instructions.proofs.leaving.next_place.Goals as goal

pub returns-in-Some : goal.returns-in-Some
returns-in-Some c = λ f top small.
    let same : f.place ≡ c.in-Some.frame.place = ap (λ x. x.place) (one_top c.args.stack.now f (shown_frame c.in-Some.frame) top c.in-Some.ensures) in
    omega (arith, same, small, c.saturating_add.ensures)

pub returns-in-None : goal.returns-in-None
returns-in-None c = λ f top small. absurd (not_none c.args.stack.now f top c.in-None.ensures)
