use Rattle.std.proofs.Common.{◌≡◌, ◌++◌, length, take, map}
use Rattle.std.specs.List.{flat_map}
use Rattle.model.specs.Spelling.{u2}
use Rattle.class_tree.proofs.spelled.put_table.Given as goal

abbrev pub invariant-parts : goal.invariant-parts
invariant-parts g l = l.out.items ≡ l.fn.out.items ++ (u2 (length l.parts) ++ flat_map g.T.Spelled.text (map g.T.Spelled.form_of (take l.part-index l.parts)))
