use Rattle.std.proofs.Common.{◌∙◌}
use Rattle.link_conditions.proofs.resolution.Texts.{text_said}
use Rattle.link_conditions.proofs.resolution.descriptor.text_lacks_class.Goals as goal

pub returns : goal.returns
returns c = c.mark.ensures ∙ text_said c.args.set.now c.args.file.now.pool c.args.lacking.now c.args.index c.requires
