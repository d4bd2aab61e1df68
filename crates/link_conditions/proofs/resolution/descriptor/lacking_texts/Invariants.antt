use Rattle.std.proofs.Common.{◌≡◌, take}
use Rattle.constant_pool.specs.View.{entries_of}
use Rattle.link_conditions.specs.resolution.Rows.{lacking_texts}
use Rattle.link_conditions.proofs.resolution.descriptor.lacking_texts.Given as goal

abbrev pub invariant-loop-constant : goal.invariant-loop-constant
invariant-loop-constant l = l.rows.items ≡ lacking_texts l.set (entries_of (take l.constant-index l.pool))
