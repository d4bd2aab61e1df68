use Rattle.std.proofs.Common.{◌≡◌, ◌∙◌, ℕ, ap, eqb}
use Rattle.constant_pool.specs.Texts.{texts, first_place, first_index}
use Rattle.constant_pool.proofs.TextLaws.{of_text, same_first}
use Rattle.constant_pool.proofs.first.FirstIndices.first.Goals as goal

pub returns-clause-value : goal.returns-clause-value
returns-clause-value c = cc (of_text (first_place (texts c.self.inside.pool.now)) c.self.inside.pool.now c.args.index)

pub returns-clause-same : goal.returns-clause-same
returns-clause-same c = λ other.
    let value : c.first_at.result ≡ first_index c.args.self.now c.args.index = cc (of_text (first_place (texts c.self.inside.pool.now)) c.self.inside.pool.now c.args.index) in
    ap (λ (n : ℕ). eqb n (first_index c.args.self.now other)) value ∙ same_first c.args.self.now c.args.index other
