use Rattle.field_names.proofs.named_fields.Apart.{apart}
use Rattle.field_names.proofs.named_fields.names_are_apart.Goals as goal

pub returns : goal.returns
returns c = apart c.args.linked.now c.hierarchy.ensures.linked
