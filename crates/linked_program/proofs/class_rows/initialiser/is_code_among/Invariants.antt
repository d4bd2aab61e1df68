use Rattle.std.proofs.Common.{◌≡◌, drop, map}
use Rattle.model.specs.Classes.{code_in}
use Rattle.classfile.specs.View.{method_part_of}
use Rattle.linked_program.proofs.class_rows.initialiser.is_code_among.Given as goal

abbrev pub invariant-loop-attribute : goal.invariant-loop-attribute
invariant-loop-attribute l = code_in (map method_part_of l.attributes) ≡ code_in (map method_part_of (drop l.attribute-index l.attributes))
