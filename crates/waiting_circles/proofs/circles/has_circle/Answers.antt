use Rattle.std.proofs.Common.{◌∙◌, ap, subst}
use Rattle.model.specs.declared.limits.Limits.{Limits}
use Rattle.waiting_circles.specs.Rounds.{TellsRound}
use Rattle.waiting_circles.proofs.circles.Turns.{tells, of_machine}
use Rattle.waiting_circles.proofs.circles.has_circle.Goals as goal

pub returns : goal.returns
returns c =
    tells c.args.machine.now c.in_ok-nexts.nexts.items
    (of_machine c.args.machine.now c.deref.result.now c.shared.result.now c.limits-frames.result.frames c.in_ok-nexts.nexts.items (c.deref.ensures ∙ c.program.ensures) c.shared.ensures.same (ap (λ (l : Limits). l.frames) c.limits-frames.ensures) c.in_ok-nexts.ensures)
    c.has_round.result (subst (λ l. TellsRound l c.has_round.result) c.deref-2.ensures.value c.has_round.ensures)
