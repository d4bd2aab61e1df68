use Rattle.std.proofs.Common.{take, map}
use Rattle.model.specs.Classes.{classes_of}
use Rattle.linker.specs.field_links.Tables.{IsRow}
use Rattle.linker.proofs.field_links.RowLaws.{Pairs}
use Rattle.linker.proofs.field_links.row.link_rows.Given as goal

abbrev pub invariant-loop-place : goal.invariant-loop-place
invariant-loop-place l = Pairs (IsRow l.hierarchy) (take l.place (classes_of l.hierarchy)) (map (λ row. row.items) l.rows.items)
