use Rattle.std.proofs.Common.{◌∙◌, map, ap}
use Rattle.std.specs.List.{flat_map}
use Rattle.model.specs.Classes.{classes_of, name_of}
use Rattle.hierarchy.specs.Above.{with_names}
use Rattle.hierarchy.specs.Numbers.{direct_names, names_in}
use Rattle.hierarchy.proofs.name_table.NameTable.of_set.Goals as goal

pub returns : goal.returns
unfolding names_in
returns c =
    let classes = classes_of c.args.set.now in
    c.in_ok-add_supertypes.ensures ∙ ap (λ l. with_names l (flat_map direct_names classes)) (c.in_ok-add_classes.ensures ∙ ap (λ l. with_names (map (λ name. name.items) l) (map name_of classes)) c.new.ensures.empty)
