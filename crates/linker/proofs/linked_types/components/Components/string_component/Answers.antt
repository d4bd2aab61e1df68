use Rattle.model.specs.Names.{java_lang_string}
use Rattle.linker.proofs.linked_types.ComponentTypes.{type_at}
use Rattle.linker.proofs.linked_types.components.Components.string_component.Goals as goal

pub returns : goal.returns
returns c files are =
    let components = c.args.self.now in
    type_at files components.names components.types.items 0 java_lang_string are.types are.string
