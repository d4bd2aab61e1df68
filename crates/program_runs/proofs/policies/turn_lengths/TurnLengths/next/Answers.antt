use Rattle.std.proofs.Common.{sym, subst}
use Rattle.program_runs.specs.declared.policies.turn_lengths.Turn.{Turn}
use Rattle.program_runs.specs.policies.Lengths.{HasLength}
use Rattle.program_runs.proofs.policies.turn_lengths.TurnLengths.next.Goals as goal

pub returns-in-Same-clause-length : goal.returns-in-Same-clause-length
returns-in-Same-clause-length g c =
    subst (λ (t : Turn). HasLength t c.args.self.now (g.R.Rng.stream c.args.random.now) c.same_length.result c.same_length.new.self (g.R.Rng.stream c.same_length.new.random))
    (sym c.in-Same.is) c.same_length.ensures.length

pub returns-in-Another-clause-length : goal.returns-in-Another-clause-length
returns-in-Another-clause-length g c =
    subst (λ (t : Turn). HasLength t c.args.self.now (g.R.Rng.stream c.args.random.now) c.another_length.result c.another_length.new.self (g.R.Rng.stream c.another_length.new.random))
    (sym c.in-Another.is) c.another_length.ensures.length
