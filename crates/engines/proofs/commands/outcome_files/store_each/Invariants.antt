use Rattle.std.proofs.Common.{◌≡◌, ◌+◌, map, take, vec_items}
use Rattle.engines.specs.Files.{AreWith}
use Rattle.engines.specs.OutcomeFiles.{files_in}
use Rattle.engines.proofs.commands.outcome_files.store_each.Given as goal

-- the files so far are written
abbrev pub invariant-loop-bytes : goal.invariant-loop-bytes
invariant-loop-bytes g l =
    AreWith (g.F.Folder.held l.fn.folder) (g.F.Folder.held l.folder) (files_in l.at 1 (map vec_items (take l.bytes-index l.schedules)))
    × (l.number ≡ l.bytes-index + 1)
