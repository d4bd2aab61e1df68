use Rattle.std.proofs.Common.{◌≡◌, [], drop, map}
use Rattle.std.specs.Prelude.{find}
use Rattle.model.specs.Names.{main_of}
use Rattle.model.specs.Classes.{is_method}
use Rattle.classfile.specs.View.{method_of}
use Rattle.program_files.proofs.held_class.declares_main.Given as goal

abbrev pub invariant-loop-method : goal.invariant-loop-method
invariant-loop-method l =
    find (is_method l.file.pool (main_of []).name (main_of []).descriptor) (map method_of l.file.methods.items)
    ≡ find (is_method l.file.pool (main_of []).name (main_of []).descriptor) (map method_of (drop l.method-index l.file.methods.items))
