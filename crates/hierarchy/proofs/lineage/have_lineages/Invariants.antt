use Rattle.std.proofs.Common.{◌≡◌, ℕ, ◌<◌, true, false}
use Rattle.std.specs.Option.{option_map_or}
use Rattle.hierarchy.specs.Places.{class_at}
use Rattle.hierarchy.specs.Lineages.{has_lineage}
use Rattle.hierarchy.proofs.lineage.have_lineages.Given as goal

abbrev pub invariant-loop-place : goal.invariant-loop-place
invariant-loop-place l = (p : ℕ) → p < l.place → option_map_or (has_lineage l.set l.table p) (class_at l.set p) false ≡ true
