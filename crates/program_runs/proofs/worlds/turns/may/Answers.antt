use Rattle.std.proofs.Common.{ap, subst, ◌∙◌}
use Rattle.model.specs.declared.limits.Limits.{Limits}
use Rattle.machine.specs.thread_standings.Standings.{MaySo}
use Rattle.program_runs.proofs.worlds.Finding.{may_so}
use Rattle.program_runs.proofs.worlds.turns.may.Goals as goal

pub returns : goal.returns
returns c =
    may_so c.args.machine.now _ _ c.args.thread c.may_step.result (c.deref.ensures ∙ c.program.ensures) c.shared.ensures.same
    (subst (λ f. MaySo c.deref.result.now c.shared.result.now c.args.thread f c.may_step.result) (ap (λ (l : Limits). l.frames) c.limits-frames.ensures) c.may_step.ensures)
