use Rattle.std.proofs.Common.{ap, ◌∙◌}
use Rattle.std.specs.Prelude.{not, ◌==◌}
use Rattle.race_runs.proofs.raced_runs.Replayed.{any_told}
use Rattle.race_runs.proofs.raced_runs.is_any.Goals as goal

pub returns : goal.returns
returns c = ap (λ n. not (n == 0)) c.len.ensures ∙ any_told _
