use Rattle.std.proofs.Common.{◌≡◌, map, take, vec_items}
use Rattle.schedule.specs.Files.{checksum_of}
use Rattle.schedule.proofs.file_checksums.checksums.Given as goal

abbrev pub invariant-files : goal.invariant-files
invariant-files l = l.checksums.items ≡ map checksum_of (map vec_items (take l.file-index l.files))
