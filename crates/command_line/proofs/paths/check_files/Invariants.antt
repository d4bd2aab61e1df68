use Rattle.std.proofs.Common.{map, take, string_bytes}
use Rattle.std.specs.Prelude.{All}
use Rattle.clap.specs.Words.{first_of, found_of, rows_of}
use Rattle.command_line.specs.Paths.{IsApart}
use Rattle.command_line.proofs.paths.check_files.Given as goal

-- the paths so far are others
abbrev pub invariant-loop-path : goal.invariant-loop-path
invariant-loop-path l = All (IsApart (first_of l.option (rows_of (found_of l.matches)))) (map string_bytes (take l.path-index l.read))
