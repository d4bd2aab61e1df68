use Rattle.std.proofs.Common.{take}
use Rattle.std.specs.List.{flat_map}
use Rattle.library_files.specs.NeededTexts.{Adds}
use Rattle.library_files.specs.Parts.{classes_at}
use Rattle.library_files.proofs.needs.need_interfaces.Given as goal

abbrev pub invariant-loop-index : goal.invariant-loop-index
invariant-loop-index l = Adds l.file.pool l.fn.texts l.texts (flat_map (classes_at l.file.pool) (take l.index-index l.indices))
