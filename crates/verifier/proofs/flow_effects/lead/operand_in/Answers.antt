use Rattle.std.proofs.Common.{◌∙◌, ap, map, reverse, take, length, get_or}
use Rattle.model.specs.Types as model
use Rattle.types.specs.View.{type_in}
use Rattle.verifier.proofs.flow_effects.lead.operand_in.Goals as goal

pub returns : goal.returns
returns c = λ files. c.operand.ensures files ∙ ap (λ l. get_or (take (length c.args.wants.now.pops.items) (reverse (map (type_in files) l))) c.args.k model.NullType) c.deref.ensures.value
