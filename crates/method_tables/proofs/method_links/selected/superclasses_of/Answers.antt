use Rattle.std.proofs.Common.{◌++◌, map, List, Option, ℕ, sym, ap}
use Rattle.classfile.specs.View.{file_of}
use Rattle.model.specs.Classes.{classes_of}
use Rattle.hierarchy.proofs.RowLaws.{drop_past, row_pushed, all_pushed}
use Rattle.method_tables.specs.method_links.Selected.{superclass_place, superclass_places}
use Rattle.method_tables.proofs.method_links.selected.superclasses_of.Goals as goal

pub loop-class-init : goal.loop-class-init
unfolding superclass_places
loop-class-init c = ap (λ (l : List (Option ℕ)). l ++ map (superclass_place c.args.set.now) (classes_of c.args.set.now)) c.new-rows.ensures.items

pub returns-in_default : goal.returns-in_default
returns-in_default c = all_pushed _ _ _ _ (drop_past (classes_of c.args.set.now) c.loop-class.class (sym c.in_default.ensures)) c.loop-class.invariant

pub loop-class-preserved : goal.loop-class-preserved
loop-class-preserved c =
    let files = c.args.set.now in
    row_pushed (superclass_place files) c.loop-class.rows.items c.push.new.self.items c.superclass_of.result (classes_of files) c.loop-class.class (file_of c.in-Some.file.now) (superclass_places files) (sym c.in-Some.ensures)
    c.superclass_of.ensures c.in_ok-push.ensures.items c.loop-class.invariant
