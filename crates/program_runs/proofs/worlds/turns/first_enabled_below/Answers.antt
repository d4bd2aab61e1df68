use Rattle.std.proofs.Common.{◌≡◌, length, ap, ◌∙◌}
use Rattle.machine_state.specs.declared.state.Shared.{Shared}
use Rattle.program_runs.proofs.worlds.FindingDownwards.{found_below, found_rest}
use Rattle.program_runs.proofs.worlds.turns.first_enabled_below.Goals as goal

pub returns-in-Some : goal.returns-in-Some
returns-in-Some c =
    let all : c.len-count.result ≡ length c.args.machine.now.shared.threads.threads = c.len-count.ensures.length ∙ ap (λ (s : Shared). length s.threads.threads) c.shared.ensures.same in
    found_below c.args.machine.now c.args.number c.min-seam.result c.len-count.result all c.min-seam.ensures c.in-Some.thread c.in-Some.ensures

pub returns-in-None : goal.returns-in-None
returns-in-None c =
    let all : c.len-count.result ≡ length c.args.machine.now.shared.threads.threads = c.len-count.ensures.length ∙ ap (λ (s : Shared). length s.threads.threads) c.shared.ensures.same in
    found_rest c.args.machine.now c.args.number c.min-seam.result c.len-count.result all c.min-seam.ensures c.in-None.ensures c.last_between-in-None.result c.last_between-in-None.ensures
