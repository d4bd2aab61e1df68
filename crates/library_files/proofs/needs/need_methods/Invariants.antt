use Rattle.std.proofs.Common.{List, take}
use Rattle.std.specs.List.{flat_map}
use Rattle.model.specs.Tree.{Entry}
use Rattle.class_tree.specs.View.{method_of}
use Rattle.library_files.specs.NeededTexts.{Adds}
use Rattle.library_files.specs.Parts.{declared_classes}
use Rattle.library_files.proofs.needs.need_methods.Given as goal

abbrev pub invariant-loop-method : goal.invariant-loop-method
invariant-loop-method l = (pool : List Entry) → Adds pool l.fn.texts l.texts (flat_map (λ f. declared_classes pool (method_of f)) (take l.method-index l.methods))
