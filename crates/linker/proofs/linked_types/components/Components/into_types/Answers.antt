use Rattle.linker.proofs.linked_types.ComponentTypes.{each_type}
use Rattle.linker.proofs.linked_types.components.Components.into_types.Goals as goal

pub returns-clause-each : goal.returns-clause-each
returns-clause-each c files are number t at = each_type files c.args.self.names c.args.self.types.items number t are.types at
