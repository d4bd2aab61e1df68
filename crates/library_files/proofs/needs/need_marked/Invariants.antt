use Rattle.std.proofs.Common.{take}
use Rattle.library_files.specs.NeededTexts.{Adds}
use Rattle.library_files.specs.Parts.{marked_classes}
use Rattle.library_files.proofs.needs.need_marked.Given as goal

abbrev pub invariant-loop-pc : goal.invariant-loop-pc
invariant-loop-pc l = Adds l.file.pool l.fn.texts l.texts (marked_classes l.file.pool l.code 0 (take l.pc l.marks))
