use Rattle.std.proofs.Common.{ℕ}
use Rattle.std.specs.Option.{option_and_then}
use Rattle.model.specs.Tree.{FileTree}
use Rattle.model.specs.Pool.{class_name_at}
use Rattle.hierarchy.specs.Places.{place_of}
use Rattle.linker.proofs.field_links.NumberLaws.{SaidBefore}
use Rattle.linker.proofs.field_links.class_numbers.number_rows.Given as goal

abbrev pub invariant-loop-place : goal.invariant-loop-place
invariant-loop-place l = SaidBefore l.set (λ (file : FileTree) (index : ℕ). option_and_then (place_of l.set) (class_name_at file.pool index)) l.place l.rows.items
