use Rattle.std.proofs.Common.{◌≡◌, false, map, string_bytes, take}
use Rattle.program_files.specs.Given.{is_given}
use Rattle.program_files.proofs.given_words.is_given.Given as goal

-- none of the paths so far leads so
abbrev pub invariant-loop-path : goal.invariant-loop-path
invariant-loop-path l = is_given (map string_bytes (take l.path-index l.before)) l.file ≡ false
