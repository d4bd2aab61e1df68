use Rattle.std.proofs.Common.{◌≡◌, ◌∷◌, map, take}
use Rattle.constant_pool.specs.View.{entry_of}
use Rattle.classfile.specs.View.{file_of}
use Rattle.model.specs.Tree.{Unusable}
use Rattle.linker.specs.Aside.{names_other_class}
use Rattle.linker.proofs.aside.other_classes.Given as goal

abbrev pub invariant-loop-constant : goal.invariant-loop-constant
invariant-loop-constant l = l.rows.items ≡ map (names_other_class l.set (file_of l.file)) (Unusable ∷ map entry_of (take l.constant-index l.constants))
