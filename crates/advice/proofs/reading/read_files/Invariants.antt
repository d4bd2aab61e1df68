use Rattle.std.proofs.Common.{map, take}
use Rattle.advice.specs.Reading.{bytes_of}
use Rattle.advice.proofs.ReadLaws.{IsRead}
use Rattle.advice.proofs.reading.read_files.Given as goal

abbrev pub invariant-loop-file : goal.invariant-loop-file
invariant-loop-file l = IsRead (map bytes_of (take l.file-index l.files)) l.read.classes.items l.read.places.items l.file-index
