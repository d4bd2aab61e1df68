use Rattle.std.proofs.Common.{◌∙◌, sym, ap}
use Rattle.std.specs.Option.{option_to_list}
use Rattle.class_tree.specs.View.{file_of}
use Rattle.model.specs.Classes.{interface_names, super_name_of}
use Rattle.hierarchy.specs.Above.{with_names}
use Rattle.hierarchy.proofs.Indices.{ok_weaken}
use Rattle.hierarchy.proofs.RowLaws.{with_names-append}
use Rattle.hierarchy.proofs.name_table.add_direct.Goals as goal

pub returns : goal.returns
returns c =
    let file = file_of c.args.file.now in
    ok_weaken _ _ (λ _ is. is
    ∙ ap (λ o. with_names c.add_interfaces.new.names (option_to_list o)) c.superclass_name.ensures
    ∙ ap (λ l. with_names l (option_to_list (super_name_of file))) c.in_ok-add_interfaces.ensures
    ∙ sym (with_names-append c.args.names.now (interface_names file) (option_to_list (super_name_of file)))) c.add_named.result c.add_named.ensures
