use Rattle.std.proofs.Common.{refl}
use Rattle.model.specs.BuiltIn.{built_in_classes}
use Rattle.class_tree.proofs.builtin.classes.from_thread.Goals as goal

pub returns : goal.returns
unfolding built_in_classes
returns c = (refl, refl)
