use Rattle.std.proofs.Common.{map, take, vec_items}
use Rattle.model.specs.Linkable.{AreSpelled}
use Rattle.classfile.specs.View.{file_of}
use Rattle.listings.proofs.class_listings.decoding.decode_files.Given as goal

-- the files so far are decoded
abbrev pub invariant-loop-number : goal.invariant-loop-number
invariant-loop-number l = record {
  spelled : AreSpelled (map vec_items (take l.number l.files)) (map file_of l.trees.items);
}
