use Rattle.std.proofs.Common.{◌≡◌, ◌∷◌, map, take}
use Rattle.constant_pool.specs.View.{entry_of}
use Rattle.classfile.specs.View.{file_of}
use Rattle.model.specs.Tree.{Unusable}
use Rattle.model.specs.Classes.{Program}
use Rattle.linker.specs.Aside.{other_classes, names_method_aside}
use Rattle.linker.proofs.aside.methods_aside.Given as goal

abbrev pub invariant-loop-constant : goal.invariant-loop-constant
invariant-loop-constant l = (files : Program) → l.others ≡ other_classes files (file_of l.file) → l.rows.items ≡ map (names_method_aside files (file_of l.file)) (Unusable ∷ map entry_of (take l.constant-index l.constants))
