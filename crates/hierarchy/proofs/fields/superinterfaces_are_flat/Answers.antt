use Rattle.std.proofs.Common.{◌∙◌, sym, ap}
use Rattle.std.specs.Prelude.{not}
use Rattle.class_tree.specs.View.{file_of}
use Rattle.model.specs.Classes.{classes_of}
use Rattle.hierarchy.specs.Fields.{has_interface_below_other}
use Rattle.hierarchy.proofs.Indices.{none_more, none_all}
use Rattle.hierarchy.proofs.fields.superinterfaces_are_flat.Goals as goal
use Rattle.hierarchy.proofs.Finding.{one_at}

pub returns-in_default : goal.returns-in_default
returns-in_default c = sym (ap not (none_all (has_interface_below_other c.args.set.now) (classes_of c.args.set.now) c.loop-place.place (sym c.in_default.ensures) c.loop-place.invariant))

pub returns-then-has_interface_below_other : goal.returns-then-has_interface_below_other
returns-then-has_interface_below_other c =
    sym (ap not (one_at (has_interface_below_other c.args.set.now) (classes_of c.args.set.now) c.loop-place.place (file_of c.in-Some.file.now) (sym c.in-Some.ensures) (sym c.has_interface_below_other.ensures ∙ c.if-has_interface_below_other.true)))

pub loop-place-preserved : goal.loop-place-preserved
loop-place-preserved c =
    none_more (has_interface_below_other c.args.set.now) (classes_of c.args.set.now) c.loop-place.place (file_of c.in-Some.file.now) (sym c.in-Some.ensures) c.loop-place.invariant (sym c.has_interface_below_other.ensures ∙ c.if-has_interface_below_other.false)
