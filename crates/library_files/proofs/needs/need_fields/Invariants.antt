use Rattle.std.proofs.Common.{List, take}
use Rattle.std.specs.List.{flat_map}
use Rattle.model.specs.Tree.{Entry}
use Rattle.class_tree.specs.View.{field_of}
use Rattle.library_files.specs.NeededTexts.{Adds}
use Rattle.library_files.specs.Parts.{field_classes}
use Rattle.library_files.proofs.needs.need_fields.Given as goal

abbrev pub invariant-loop-field : goal.invariant-loop-field
invariant-loop-field l = (pool : List Entry) → Adds pool l.fn.texts l.texts (flat_map (λ f. field_classes pool (field_of f)) (take l.field-index l.fields))
