use Rattle.std.proofs.Common.{◌≡◌, ◌++◌, string_bytes, take}
use Rattle.engines.specs.Sweeps.{file_words}
use Rattle.engines.proofs.repeat_words.push_files.Given as goal

-- the files so far
abbrev pub invariant-loop-file : goal.invariant-loop-file
invariant-loop-file l = string_bytes l.words ≡ string_bytes l.fn.words ++ file_words (take l.file-index l.files)
