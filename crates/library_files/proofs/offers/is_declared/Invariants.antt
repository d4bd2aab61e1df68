use Rattle.std.proofs.Common.{◌≡◌, drop, map}
use Rattle.std.specs.List.{list_any}
use Rattle.model.specs.Classes.{is_named}
use Rattle.class_tree.specs.View.{file_of}
use Rattle.library_files.proofs.offers.is_declared.Given as goal

abbrev pub invariant-loop-class : goal.invariant-loop-class
invariant-loop-class l = list_any (is_named l.name) (map file_of l.classes) ≡ list_any (is_named l.name) (map file_of (drop l.class-index l.classes))
