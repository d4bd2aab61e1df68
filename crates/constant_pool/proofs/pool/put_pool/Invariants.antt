use Rattle.std.proofs.Common.{◌≡◌, ◌+◌, ◌++◌, length, take}
use Rattle.model.specs.Spelling.{u2, entries}
use Rattle.constant_pool.specs.View.{entries_of}
use Rattle.constant_pool.proofs.pool.put_pool.Given as goal

abbrev pub invariant-constants : goal.invariant-constants
invariant-constants l = l.out.items ≡ l.fn.out.items ++ (u2 (length l.constants + 1) ++ entries (entries_of (take l.constant-index l.constants)))
