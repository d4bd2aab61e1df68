use Rattle.std.proofs.Common.{◌*◌, ◌+◌, map, string_bytes, take}
use Rattle.program_files.specs.Given.{AreAt, AreFronts}
use Rattle.program_files.proofs.class_paths.+below.Given as goal

abbrev pub decreases-below : goal.decreases-below
decreases-below g l = 3 * l.depth

abbrev pub decreases-below_each : goal.decreases-below_each
decreases-below_each g l = 3 * l.depth + 2

abbrev pub decreases-at_name : goal.decreases-at_name
decreases-at_name g l = 3 * l.depth + 1

-- the names so far have their files
abbrev pub invariant-below_each-loop-name : goal.invariant-below_each-loop-name
invariant-below_each-loop-name g l = AreFronts (AreAt (g.F.Folder.listed l.folder) l.depth l.path) (take l.name-index l.names) (map string_bytes l.paths.items)
