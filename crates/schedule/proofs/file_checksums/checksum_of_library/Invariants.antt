use Rattle.std.proofs.Common.{map, take, vec_items}
use Rattle.std.specs.List.{concat}
use Rattle.sha2.specs.Hashers.{Holds256}
use Rattle.schedule.proofs.file_checksums.checksum_of_library.Given as goal

-- the hasher has the files so far
abbrev pub invariant-files : goal.invariant-files
invariant-files l = Holds256 l.hasher (concat (map vec_items (take l.file-index l.added)))
