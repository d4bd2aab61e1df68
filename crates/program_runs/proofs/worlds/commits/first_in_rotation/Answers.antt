use Rattle.std.proofs.Common.{◌≡◌, length, arith, subst, ap, ◌∙◌}
use Rattle.std.specs.Prelude.{min}
use Rattle.machine_state.specs.declared.state.Shared.{Shared}
use Rattle.program_runs.specs.worlds.Commits.{CopiesFirst}
use Rattle.program_runs.proofs.worlds.Copying.{rest_if, least}
use Rattle.program_runs.proofs.worlds.commits.first_in_rotation.Goals as goal

pub returns-in-None : goal.returns-in-None
returns-in-None c =
    let all : c.len-count.result ≡ length c.args.machine.now.shared.threads.threads = c.len-count.ensures.length ∙ ap (λ (s : Shared). length s.threads.threads) c.shared.ensures.same in
    let is : c.min.result ≡ min c.args.from c.len-count.result = c.min.ensures in
    rest_if c.args.machine.now c.args.from c.min.result c.len-count.result all (subst (CopiesFirst c.args.machine.now c.args.from c.len-count.result) c.in-None.is c.in_ok-out.ensures) (omega (arith, is)) (omega (arith, is)) (least c.args.from c.len-count.result c.min.result is) _ c.first_copy-in-None.ensures
