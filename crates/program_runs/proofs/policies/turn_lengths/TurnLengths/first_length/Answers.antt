use Rattle.std.proofs.Common.{Bool, refl, sym, subst}
use Rattle.program_runs.specs.policies.Lengths.{IsFirstLength}
use Rattle.program_runs.proofs.policies.turn_lengths.TurnLengths.first_length.Goals as goal

pub returns-then-self-clause-length : goal.returns-then-self-clause-length
returns-then-self-clause-length g c =
    subst (λ (b : Bool). IsFirstLength b c.args.self.now (g.R.Rng.stream c.args.random.now) 10000 c.args.self.now (g.R.Rng.stream c.args.random.now)) (sym c.if-self.true)
    (record { long = refl; none = refl; kept = refl })

pub returns-else-self-clause-length : goal.returns-else-self-clause-length
returns-else-self-clause-length g c =
    subst (λ (b : Bool). IsFirstLength b c.args.self.now (g.R.Rng.stream c.args.random.now) c.same_length.result c.same_length.new.self (g.R.Rng.stream c.same_length.new.random))
    (sym c.if-self.false) c.same_length.ensures.length
