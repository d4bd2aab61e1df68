use Rattle.std.proofs.Common.{◌≡◌, filter, map, string_bytes, take}
use Rattle.std.specs.Prelude.{not}
use Rattle.program_files.specs.Given.{is_given}
use Rattle.program_files.proofs.given_words.new_files.Given as goal

-- of the files so far those are kept that were not given before
abbrev pub invariant-loop-file : goal.invariant-loop-file
invariant-loop-file l = map string_bytes l.kept.items
    ≡ filter (λ file. not (is_given (map string_bytes l.before) file)) (map string_bytes (take l.file-index l.files))
