use Rattle.std.proofs.Common.{◌≡◌, true, take}
use Rattle.std.specs.List.{list_all}
use Rattle.model.specs.Conditions.{constant_fits}
use Rattle.class_tree.specs.View.{field_part_of}
use Rattle.class_tree.proofs.attribute.constants_fit.Given as goal

abbrev pub invariant-parts : goal.invariant-parts
invariant-parts l = list_all (λ p. constant_fits l.pool l.descriptor (field_part_of p)) (take l.part-index l.parts) ≡ true
