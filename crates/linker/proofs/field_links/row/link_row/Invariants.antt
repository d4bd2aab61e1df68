use Rattle.std.proofs.Common.{ℕ, None}
use Rattle.std.specs.Option.{option_and_then}
use Rattle.model.specs.Pool.{field_at}
use Rattle.linker.specs.field_links.Links.{named_link}
use Rattle.linker.proofs.field_links.RowLaws.{Told}
use Rattle.linker.proofs.field_links.row.link_row.Given as goal

abbrev pub invariant-loop-index : goal.invariant-loop-index
invariant-loop-index l = Told None (λ (k : ℕ). option_and_then (named_link l.hierarchy) (field_at l.file.pool k)) l.row.items l.index
