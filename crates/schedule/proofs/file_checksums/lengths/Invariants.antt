use Rattle.std.proofs.Common.{◌≡◌, length, map, take, vec_items}
use Rattle.schedule.proofs.file_checksums.lengths.Given as goal

abbrev pub invariant-files : goal.invariant-files
invariant-files l = l.lengths.items ≡ map length (map vec_items (take l.file-index l.files))
