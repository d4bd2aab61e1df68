use Rattle.std.proofs.Common.{length, ap, subst, ◌∙◌}
use Rattle.machine_state.specs.declared.state.Shared.{Shared}
use Rattle.program_runs.specs.worlds.Turns.{IsFirst}
use Rattle.program_runs.proofs.worlds.Finding.{found_above, found_rest}
use Rattle.program_runs.proofs.worlds.turns.first_enabled.Goals as goal

pub returns-in-Some : goal.returns-in-Some
returns-in-Some c =
    found_above c.args.machine.now c.args.from c.len-count.result (c.len-count.ensures.length ∙ ap (λ (s : Shared). length s.threads.threads) c.shared.ensures.same) c.in-Some.thread c.in-Some.ensures

pub returns-in-None : goal.returns-in-None
returns-in-None c =
    found_rest c.args.machine.now c.args.from c.len-count.result (c.len-count.ensures.length ∙ ap (λ (s : Shared). length s.threads.threads) c.shared.ensures.same) c.in-None.ensures
    c.first_between-in-None.result (subst (λ k. IsFirst c.args.machine.now 0 k c.first_between-in-None.result) c.min.ensures c.first_between-in-None.ensures)
