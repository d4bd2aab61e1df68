use Rattle.std.proofs.Common.{take}
use Rattle.std.specs.List.{flat_map}
use Rattle.class_tree.specs.View.{method_of}
use Rattle.library_files.specs.NeededTexts.{Adds}
use Rattle.library_files.specs.Parts.{method_classes}
use Rattle.library_files.proofs.needs.need_codes.Given as goal

abbrev pub invariant-loop-method : goal.invariant-loop-method
invariant-loop-method l = Adds l.file.pool l.fn.texts l.texts (flat_map (λ m. method_classes l.file.pool (method_of m)) (take l.method-index l.methods))
