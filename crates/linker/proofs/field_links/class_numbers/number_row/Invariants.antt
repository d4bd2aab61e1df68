use Rattle.std.proofs.Common.{ℕ, None}
use Rattle.std.specs.Option.{option_and_then}
use Rattle.model.specs.Pool.{class_name_at}
use Rattle.hierarchy.specs.Places.{place_of}
use Rattle.linker.proofs.field_links.RowLaws.{Told}
use Rattle.linker.proofs.field_links.class_numbers.number_row.Given as goal

abbrev pub invariant-loop-index : goal.invariant-loop-index
invariant-loop-index l = Told None (λ (k : ℕ). option_and_then (place_of l.set) (class_name_at l.file.pool k)) l.row.items l.index
