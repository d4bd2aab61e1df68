use Rattle.std.proofs.Common.{◌∙◌}
use Rattle.constant_pool.proofs.descriptors.NameLaws.{class_name}
use Rattle.constant_pool.proofs.descriptors.name.is_class_name.Goals as goal

pub returns : goal.returns
returns c = c.are_joined.ensures ∙ class_name c.args.text.now
