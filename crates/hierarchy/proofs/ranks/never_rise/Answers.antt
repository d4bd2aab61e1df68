use Rattle.std.proofs.Common.{sym}
use Rattle.class_tree.specs.View.{file_of}
use Rattle.model.specs.Classes.{classes_of}
use Rattle.hierarchy.specs.Ranks.{rises}
use Rattle.hierarchy.proofs.Indices.{none_more, none_all}
use Rattle.hierarchy.proofs.ranks.never_rise.Goals as goal

pub returns-in_default : goal.returns-in_default
returns-in_default c is = none_all (rises c.args.set.now c.args.ranks.now) (classes_of c.args.set.now) c.loop-place.place (sym c.in_default.ensures) c.loop-place.invariant

pub loop-place-preserved : goal.loop-place-preserved
loop-place-preserved c =
    none_more (rises c.args.set.now c.args.ranks.now) (classes_of c.args.set.now) c.loop-place.place (file_of c.in-Some.file.now) (sym c.in-Some.ensures) c.loop-place.invariant (c.rises.ensures c.if-rises.false)
