use Rattle.std.proofs.Common.{◌≡◌, true, take}
use Rattle.std.specs.List.{list_all}
use Rattle.class_tree.proofs.check.check_each.Given as goal

abbrev pub invariant-parts : goal.invariant-parts
invariant-parts g l = list_all (λ x. g.T.Checked.is_met l.texts (g.T.Checked.view x)) (take l.part-index l.parts) ≡ true
