use Rattle.std.proofs.Common.{inl, inr, ⊎_elim}
use Rattle.verifier.proofs.verified.unverified.Goals as goal

pub returns : goal.returns
returns c = ⊎_elim (λ kind. inl kind) (λ named. inr named.0) c.refusal_of.ensures
