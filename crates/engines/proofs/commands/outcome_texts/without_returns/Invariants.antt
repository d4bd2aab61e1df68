use Rattle.std.proofs.Common.{◌≡◌, ◌++◌, drop}
use Rattle.engines.specs.Goals.{without_returns}
use Rattle.engines.proofs.commands.outcome_texts.without_returns.Given as goal

-- what was kept, and what is kept of the rest
abbrev pub invariant-bytes : goal.invariant-bytes
invariant-bytes l = l.kept.items ++ without_returns (drop l.place l.bytes) ≡ without_returns l.bytes
