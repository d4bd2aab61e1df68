use Rattle.std.proofs.Common.{◌≡◌, map, take, vec_items}
use Rattle.program_files.specs.Handed.{main_names}
use Rattle.program_files.proofs.file_order.main_names.Given as goal

-- of the classes so far those are named that declare a main
abbrev pub invariant-loop-class : goal.invariant-loop-class
invariant-loop-class l = map vec_items l.names.items ≡ main_names (take l.class-index l.classes)
