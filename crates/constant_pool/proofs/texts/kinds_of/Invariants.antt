use Rattle.std.proofs.Common.{◌≡◌, map, take}
use Rattle.constant_pool.specs.View.{entries_of}
use Rattle.constant_pool.specs.Texts.{texts, kind_of}
use Rattle.constant_pool.proofs.texts.kinds_of.Given as goal

abbrev pub invariant-constants : goal.invariant-constants
invariant-constants l = l.kinds.items ≡ map kind_of (texts (entries_of (take l.constant-index l.constants)))
