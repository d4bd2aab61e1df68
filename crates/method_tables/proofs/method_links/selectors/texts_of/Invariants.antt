use Rattle.std.proofs.Common.{◌≡◌, ◌++◌, map, drop}
use Rattle.method_tables.specs.method_links.Methods.{methods_of}
use Rattle.method_tables.specs.method_links.Selected.{part_of, parts_of}
use Rattle.method_tables.proofs.method_links.selectors.texts_of.Given as goal

abbrev pub invariant-loop-number : goal.invariant-loop-number
invariant-loop-number l = map (λ t. t.now) l.texts.items ++ map (part_of l.part) (drop l.number (methods_of l.set)) ≡ parts_of l.part l.set
