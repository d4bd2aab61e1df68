use Rattle.std.proofs.Common.{subst, ◌∙◌}
use Rattle.linked_code.specs.declared.program.LinkedProgram.{LinkedProgram}
use Rattle.machine_state.specs.declared.state.Shared.{Shared}
use Rattle.program_runs.specs.policies.Picks.{PicksSo}
use Rattle.program_runs.proofs.policies.picks.waiters_to_pick.Goals as goal

pub returns : goal.returns
returns c =
    subst (λ (p : LinkedProgram). PicksSo p c.args.machine.now.shared c.args.thread c.thread_picks.result) (c.deref.ensures ∙ c.program.ensures)
    (subst (λ (s : Shared). PicksSo c.deref.result.now s c.args.thread c.thread_picks.result) c.shared.ensures.same c.thread_picks.ensures)
