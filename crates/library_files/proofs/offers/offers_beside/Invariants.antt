use Rattle.std.proofs.Common.{◌≡◌, take, map}
use Rattle.class_tree.specs.View.{file_of}
use Rattle.library_files.specs.Adding.{library_file}
use Rattle.library_files.specs.Offers.{offers_of}
use Rattle.library_files.proofs.offers.offers_beside.Given as goal

abbrev pub invariant-loop-class : goal.invariant-loop-class
invariant-loop-class l = l.offers.items ≡ offers_of (map file_of l.files) (map library_file (take l.class-index l.library))
