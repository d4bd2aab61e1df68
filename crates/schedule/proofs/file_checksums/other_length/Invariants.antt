use Rattle.std.proofs.Common.{◌≡◌, length, map, vec_items, take}
use Rattle.schedule.proofs.file_checksums.other_length.Given as goal

abbrev pub invariant-files : goal.invariant-files
invariant-files l = map length (map vec_items (take l.number l.files)) ≡ take l.number l.lengths
