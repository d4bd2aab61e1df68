use Rattle.std.proofs.Common.{refl}
use Rattle.linker.proofs.linked_types.Types.{class_described}
use Rattle.linker.proofs.linked_types.named.described_type.Goals as goal

pub returns-in-Object : goal.returns-in-Object
returns-in-Object c = class_described c.args.set.now c.args.name.now c.args.field.dimensions _ _ c.class_type.result c.in-Object.is _ refl c.class_type.ensures
