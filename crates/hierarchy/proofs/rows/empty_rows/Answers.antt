use Rattle.std.proofs.Common.{[], ◌++◌, ℕ, map, List, sym, ap}
use Rattle.model.specs.Tree.{FileTree}
use Rattle.model.specs.Classes.{classes_of}
use Rattle.hierarchy.proofs.RowLaws.{drop_past, row_pushed, all_pushed}
use Rattle.hierarchy.proofs.rows.empty_rows.Goals as goal

pub loop-place-init : goal.loop-place-init
loop-place-init c = ap (λ (l : List (List ℕ)). l ++ map (λ (file : FileTree). []) (classes_of c.args.set.now)) c.new-rows.ensures.items

pub returns-in_default : goal.returns-in_default
returns-in_default c = all_pushed _ _ _ _ (drop_past (classes_of c.args.set.now) c.loop-place.place (sym c.in_default.ensures)) c.loop-place.invariant

pub loop-place-preserved : goal.loop-place-preserved
loop-place-preserved c =
    row_pushed (λ (file : FileTree). []) c.loop-place.rows.items c.push.new.self.items c.empty.result (classes_of c.args.set.now) c.loop-place.place _ (map (λ (file : FileTree). []) (classes_of c.args.set.now)) (sym c.in-Some.ensures) c.empty.ensures c.in_ok-push.ensures.items c.loop-place.invariant
