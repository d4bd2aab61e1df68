use Rattle.std.proofs.Common.{take}
use Rattle.std.specs.List.{flat_map}
use Rattle.library_files.specs.NeededTexts.{Adds}
use Rattle.library_files.specs.Needs.{caught_classes}
use Rattle.library_files.proofs.needs.need_all_caught.Given as goal

abbrev pub invariant-loop-entry : goal.invariant-loop-entry
invariant-loop-entry l = Adds l.file.pool l.fn.texts l.texts (flat_map (caught_classes l.file.pool) (take l.entry-index l.entries))
