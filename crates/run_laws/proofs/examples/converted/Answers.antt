use Rattle.std.proofs.Common.{refl}
use Rattle.run_laws.proofs.examples.converted.Goals as goal

pub returns : goal.returns
returns c = record { holds = record { ineg = refl; i2b = refl; i2c = refl; i2s = refl } }
