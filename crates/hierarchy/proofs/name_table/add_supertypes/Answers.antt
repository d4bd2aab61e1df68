use Rattle.std.proofs.Common.{◌∙◌, sym, ap}
use Rattle.std.specs.List.{flat_map}
use Rattle.class_tree.specs.View.{file_of}
use Rattle.model.specs.Classes.{classes_of}
use Rattle.hierarchy.specs.Above.{with_names}
use Rattle.hierarchy.specs.Numbers.{direct_names}
use Rattle.hierarchy.proofs.RowLaws.{drop_past}
use Rattle.hierarchy.proofs.NumberLaws.{direct_named}
use Rattle.hierarchy.proofs.name_table.add_supertypes.Goals as goal

pub returns-in_default : goal.returns-in_default
returns-in_default c = ap (λ l. with_names c.loop-place.names (flat_map direct_names l)) (sym (drop_past (classes_of c.args.set.now) c.loop-place.place (sym c.in_default.ensures))) ∙ c.loop-place.invariant

pub loop-place-preserved : goal.loop-place-preserved
loop-place-preserved c =
    let classes = classes_of c.args.set.now in
    direct_named c.loop-place.names c.add_direct.new.names classes c.loop-place.place (file_of c.in-Some.file.now) (with_names c.args.names.now (flat_map direct_names classes)) (sym c.in-Some.ensures) (c.in_ok-add_direct.ensures) c.loop-place.invariant
