use Rattle.std.proofs.Common.{map, take, vec_items}
use Rattle.model.specs.Linkable.{AreSpelled}
use Rattle.class_tree.specs.View.{file_of}
use Rattle.library_files.proofs.completing.classes_of.Given as goal

abbrev pub invariant-loop-bytes : goal.invariant-loop-bytes
invariant-loop-bytes l = AreSpelled (map vec_items (take l.bytes-index l.files)) (map file_of l.classes.items)
