use Rattle.std.proofs.Common.{◌≡◌, ℕ, ◌<◌, [], length, map, get_or, Some, vec_items}
use Rattle.model.specs.Tree.{FileTree}
use Rattle.hierarchy.specs.Places.{class_at}
use Rattle.method_tables.specs.method_links.Named.{AreNamedIn}
use Rattle.method_tables.proofs.method_links.named.NamedMethods.new.Given as goal

abbrev pub invariant-loop-class : goal.invariant-loop-class
invariant-loop-class l = record {
  count : length l.rows.items ≡ l.class;
  said : (class : ℕ) → class < l.class → (file : FileTree) → class_at l.hierarchy class ≡ Some file
      → AreNamedIn l.hierarchy file.pool (get_or (map vec_items l.rows.items) class []);
}
