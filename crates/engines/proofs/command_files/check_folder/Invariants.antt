use Rattle.std.proofs.Common.{◌≡◌, false, map, string_bytes, take}
use Rattle.engines.specs.OutcomeFiles.{has_outcome}
use Rattle.engines.proofs.command_files.check_folder.Given as goal

-- none of the files so far may be the schedule of an outcome
abbrev pub invariant-loop-file : goal.invariant-loop-file
invariant-loop-file l = has_outcome l.folder (map string_bytes (take l.file-index l.files)) ≡ false
