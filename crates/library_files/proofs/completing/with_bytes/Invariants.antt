use Rattle.std.proofs.Common.{◌≡◌, ◌++◌, map, take, vec_items}
use Rattle.library_files.specs.Adding.{library_file}
use Rattle.library_files.specs.Completing.{bytes_of_added}
use Rattle.library_files.proofs.completing.with_bytes.Given as goal

abbrev pub invariant-loop-class : goal.invariant-loop-class
invariant-loop-class l = map vec_items l.whole.items ≡ map vec_items l.fn.files.items ++ bytes_of_added (map library_file (take l.class-index l.added))
