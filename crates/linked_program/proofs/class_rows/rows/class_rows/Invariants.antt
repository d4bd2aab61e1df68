use Rattle.std.proofs.Common.{◌≡◌, ◌++◌, length, map, take}
use Rattle.std.specs.Vec.Iter.{into_iter_items}
use Rattle.model.specs.Classes.{classes_of}
use Rattle.linked_code.specs.ClassRows.{IsLinkedClass}
use Rattle.linker.proofs.field_links.RowLaws.{Pairs}
use Rattle.linker.specs.class_constants.Constants.{slots_before}
use Rattle.linked_program.specs.class_rows.Sources.{selections_of}
use Rattle.linked_program.proofs.class_rows.rows.class_rows.Given as goal

abbrev pub invariant-loop-class : goal.invariant-loop-class
invariant-loop-class l = record {
  slot : l.slot ≡ slots_before l.sources.set.now l.class;
  rows : Pairs (IsLinkedClass l.sources.set.now) (take l.class (classes_of l.sources.set.now)) l.rows.items;
  count : length l.rows.items ≡ l.class;
  kept : map selections_of l.rows.items ++ into_iter_items l.rest ≡ l.fn.selections.items;
}
