use Rattle.std.proofs.Common.{refl}
use Rattle.run_laws.proofs.examples.compared.Goals as goal

pub returns : goal.returns
returns c = record { holds = record { eq = refl; ne = refl; lt = refl; ge = refl; gt = refl; le = refl } }
