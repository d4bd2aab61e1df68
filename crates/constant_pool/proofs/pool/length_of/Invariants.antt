use Rattle.std.proofs.Common.{◌≡◌, length, take}
use Rattle.model.specs.Spelling.{entries}
use Rattle.constant_pool.specs.View.{entries_of}
use Rattle.constant_pool.specs.Checking.{saturated}
use Rattle.constant_pool.proofs.pool.length_of.Given as goal

abbrev pub invariant-constants : goal.invariant-constants
invariant-constants l = l.sum ≡ saturated (length (entries (entries_of (take l.constant-index l.constants))))
