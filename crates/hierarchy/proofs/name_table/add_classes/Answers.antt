use Rattle.std.proofs.Common.{◌∙◌, sym, ap, map}
use Rattle.class_tree.specs.View.{file_of}
use Rattle.model.specs.Classes.{classes_of, name_of}
use Rattle.hierarchy.specs.Above.{with_name, with_names}
use Rattle.hierarchy.proofs.RowLaws.{drop_past}
use Rattle.hierarchy.proofs.NumberLaws.{class_named}
use Rattle.hierarchy.proofs.name_table.add_classes.Goals as goal

pub returns-in_default : goal.returns-in_default
returns-in_default c = ap (λ l. with_names c.loop-place.names (map name_of l)) (sym (drop_past (classes_of c.args.set.now) c.loop-place.place (sym c.in_default.ensures))) ∙ c.loop-place.invariant

pub loop-place-preserved : goal.loop-place-preserved
loop-place-preserved c =
    let classes = classes_of c.args.set.now in
    class_named c.loop-place.names c.add.new.self classes c.loop-place.place (file_of c.in-Some.file.now) (with_names c.args.names.now (map name_of classes)) (sym c.in-Some.ensures) (c.in_ok-add.ensures ∙ ap (with_name c.loop-place.names) c.class_name.ensures) c.loop-place.invariant
