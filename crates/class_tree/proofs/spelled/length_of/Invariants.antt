use Rattle.std.proofs.Common.{◌≡◌, length, take, map}
use Rattle.std.specs.List.{flat_map}
use Rattle.constant_pool.specs.Checking.{saturated}
use Rattle.class_tree.proofs.spelled.length_of.Given as goal

abbrev pub invariant-parts : goal.invariant-parts
invariant-parts g l = l.sum ≡ saturated (length (flat_map g.T.Spelled.text (map g.T.Spelled.form_of (take l.part-index l.parts))))
