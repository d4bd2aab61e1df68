use Rattle.std.proofs.Common.{map, string_bytes, take}
use Rattle.program_files.specs.Given.{AreGiven}
use Rattle.program_files.proofs.given_words.given_paths.Given as goal

-- the words so far have their files
abbrev pub invariant-loop-word : goal.invariant-loop-word
invariant-loop-word g l = AreGiven (g.F.Folder.listed l.folder) (map string_bytes (take l.word-index l.words)) (map string_bytes l.given.items)
