use Rattle.std.proofs.Common.{◌≡◌, take}
use Rattle.constant_pool.specs.View.{entries_of}
use Rattle.library_files.specs.Names.{named, names_from}
use Rattle.library_files.proofs.names.names_of.Given as goal

abbrev pub invariant-loop-place : goal.invariant-loop-place
invariant-loop-place l = named l.names.items ≡ names_from l.texts 1 (entries_of (take l.place l.pool))
