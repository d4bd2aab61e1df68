use Rattle.std.proofs.Common.{ℕ, None}
use Rattle.std.specs.Option.{option_and_then}
use Rattle.model.specs.Pool.{string_at}
use Rattle.linker.specs.field_links.Numbers.{text_number}
use Rattle.linker.proofs.field_links.RowLaws.{Told}
use Rattle.linker.proofs.field_links.string_numbers.number_row.Given as goal

abbrev pub invariant-loop-index : goal.invariant-loop-index
invariant-loop-index l = Told None (λ (k : ℕ). option_and_then (text_number l.texts) (string_at l.file.pool k)) l.row.items l.index
