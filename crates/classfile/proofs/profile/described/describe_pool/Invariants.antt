use Rattle.std.proofs.Common.{◌≡◌, take}
use Rattle.constant_pool.specs.View.{entries_of}
use Rattle.classfile.specs.profile.Descriptions.{rows_of}
use Rattle.classfile.proofs.profile.described.describe_pool.Given as goal

abbrev pub invariant-loop-constant : goal.invariant-loop-constant
invariant-loop-constant l = l.rows.items ≡ rows_of (entries_of (take l.constant-index l.pool))
