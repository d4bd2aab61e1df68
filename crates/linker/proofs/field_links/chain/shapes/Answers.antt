use Rattle.std.proofs.Common.{◌++◌, map, List, sym, ap}
use Rattle.classfile.specs.View.{file_of}
use Rattle.model.specs.Classes.{classes_of}
use Rattle.linker.specs.declared.field_links.chain.Shape.{Shape}
use Rattle.linker.specs.field_links.Chains.{shape_of, shapes}
use Rattle.linker.proofs.field_links.chain.shapes.Goals as goal
use Rattle.hierarchy.proofs.RowLaws.{drop_past, row_pushed, all_pushed}

pub loop-place-init : goal.loop-place-init
unfolding shapes
loop-place-init c = ap (λ (l : List Shape). l ++ map (shape_of c.args.counted c.args.set.now) (classes_of c.args.set.now)) c.new-rows.ensures.items

pub returns-in_default : goal.returns-in_default
returns-in_default c = all_pushed _ _ _ _ (drop_past (classes_of c.args.set.now) c.loop-place.place (sym c.in_default.ensures)) c.loop-place.invariant

pub loop-place-preserved : goal.loop-place-preserved
loop-place-preserved c =
    let files = c.args.set.now in
    let what = c.args.counted in
    row_pushed (shape_of what files) c.loop-place.rows.items c.push.new.self.items c.shape_of.result (classes_of files) c.loop-place.place (file_of c.in-Some.class.now) (shapes what files) (sym c.in-Some.ensures)
    c.shape_of.ensures c.in_ok-push.ensures.items c.loop-place.invariant
