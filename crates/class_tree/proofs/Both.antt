-- Conditions that are met together.
use Rattle.std.proofs.Common.{◌≡◌, Bool, true, false, ◌&&◌, Result}
use Rattle.constant_pool.specs.declared.reading.fault.Malformed.{Malformed}
use Rattle.constant_pool.specs.declared.reading.fault.Cause.{Cause}
use Rattle.constant_pool.specs.Checking.{Checks}

-- where the first is met, a check of the second is one of and_from
pub met_first : {A : Type 0} (cause : Cause) (r : Result A Malformed) (a b : Bool) → a ≡ true → Checks cause r b → Checks cause r (a && b)
met_first cause r true b h k = k
met_first cause r false b h k = absurd cc
