use Rattle.std.proofs.Common.{◌≡◌, ◌++◌, drop, map}
use Rattle.class_tree.specs.View.{file_of}
use Rattle.class_tree.specs.builtin.View.{trees_of}
use Rattle.class_tree.proofs.builtin.classes.push_classes.Given as goal

abbrev pub invariant-loop-class : goal.invariant-loop-class
invariant-loop-class l =
    map file_of l.files.items ++ trees_of (drop l.class-index l.classes) ≡ map file_of l.initial.files.items ++ trees_of l.classes
