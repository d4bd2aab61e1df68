use Rattle.std.proofs.Common.{◌++◌, map, List, sym, ap, ◌∙◌}
use Rattle.classfile.specs.View.{file_of}
use Rattle.model.specs.Tree.{FileTree}
use Rattle.model.specs.Classes.{classes_of, name_of}
use Rattle.link_conditions.specs.declared.limits_of_linking.climb.Climb.{Climb}
use Rattle.link_conditions.specs.limits_of_linking.Climbing.{climb, climbs}
use Rattle.link_conditions.proofs.limits_of_linking.climb.one_step_each.Goals as goal
use Rattle.hierarchy.proofs.RowLaws.{drop_past, row_pushed, all_pushed}

pub loop-place-init : goal.loop-place-init
unfolding climbs
loop-place-init c = ap (λ (l : List Climb). l ++ map (λ (file : FileTree). climb c.args.set.now 1 (name_of file)) (classes_of c.args.set.now)) c.new-rows.ensures.items

pub returns-in_default : goal.returns-in_default
returns-in_default c = all_pushed _ _ _ _ (drop_past (classes_of c.args.set.now) c.loop-place.place (sym c.in_default.ensures)) c.loop-place.invariant

pub loop-place-preserved : goal.loop-place-preserved
loop-place-preserved c =
    let files = c.args.set.now in
    row_pushed (λ (file : FileTree). climb files 1 (name_of file)) c.loop-place.rows.items c.push.new.self.items c.one_step.result (classes_of files) c.loop-place.place (file_of c.in-Some.class.now) (climbs files 1) (sym c.in-Some.ensures)
    (c.one_step.ensures ∙ ap (climb files 1) c.class_name.ensures) c.in_ok-push.ensures.items c.loop-place.invariant
