use Rattle.std.proofs.Common.{◌≡◌, map, vec_items, take}
use Rattle.schedule.specs.Files.{checksum_of}
use Rattle.schedule.proofs.file_checksums.other_checksum.Given as goal

abbrev pub invariant-files : goal.invariant-files
invariant-files l = map checksum_of (map vec_items (take l.number l.files)) ≡ take l.number l.checksums
