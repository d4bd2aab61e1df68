use Rattle.std.proofs.Common.{take}
use Rattle.linker.proofs.field_links.RowLaws.{Pairs}
use Rattle.linked_code.specs.Numbers.{methods_of}
use Rattle.linked_program.specs.method_rows.Rows.{IsMethodRow}
use Rattle.linked_program.proofs.method_rows.rows.method_rows.Given as goal

abbrev pub invariant-loop-number : goal.invariant-loop-number
invariant-loop-number l = Pairs (IsMethodRow l.set) (take l.number (methods_of l.set)) l.rows.items
