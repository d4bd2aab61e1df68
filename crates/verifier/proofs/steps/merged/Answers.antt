use Rattle.std.proofs.Common.{suc, arith}
use Rattle.std.proofs.lemmas.Nat.{mul-le}
use Rattle.verifier.proofs.steps.merged.Goals as goal

pub returns : goal.returns
returns c =
    let product = mul-le c.saturating_add-frames.result c.saturating_add.result (suc c.args.leads) (suc c.args.types) (omega arith) (omega arith) in
    omega (arith, product)
