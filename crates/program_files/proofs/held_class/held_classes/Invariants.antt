use Rattle.std.proofs.Common.{map, string_bytes, take}
use Rattle.program_files.specs.Handed.{AreClasses}
use Rattle.program_files.proofs.held_class.held_classes.Given as goal

-- the files so far hold these classes
abbrev pub invariant-loop-path : goal.invariant-loop-path
invariant-loop-path g l = AreClasses (g.F.Folder.held l.folder) (map string_bytes (take l.path-index l.paths)) l.classes.items
