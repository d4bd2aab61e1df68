use Rattle.std.proofs.Common.{ℕ}
use Rattle.std.specs.Option.{option_and_then}
use Rattle.model.specs.Tree.{FileTree}
use Rattle.model.specs.Pool.{string_at}
use Rattle.model.specs.StringConstants.{string_texts}
use Rattle.linker.specs.field_links.Numbers.{text_number}
use Rattle.linker.proofs.field_links.NumberLaws.{SaidBefore}
use Rattle.linker.proofs.field_links.string_numbers.number_rows.Given as goal

abbrev pub invariant-loop-place : goal.invariant-loop-place
invariant-loop-place l = SaidBefore l.set (λ (file : FileTree) (index : ℕ). option_and_then (text_number (string_texts l.set)) (string_at file.pool index)) l.place l.rows.items
