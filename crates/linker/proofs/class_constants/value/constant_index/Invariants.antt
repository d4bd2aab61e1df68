use Rattle.std.proofs.Common.{◌≡◌, drop, map}
use Rattle.model.specs.ClassInitialisation.{constant_in}
use Rattle.classfile.specs.View.{field_part_of}
use Rattle.linker.proofs.class_constants.value.constant_index.Given as goal

abbrev pub invariant-loop-attribute : goal.invariant-loop-attribute
invariant-loop-attribute l = constant_in (map field_part_of l.attributes) ≡ constant_in (map field_part_of (drop l.attribute-index l.attributes))
