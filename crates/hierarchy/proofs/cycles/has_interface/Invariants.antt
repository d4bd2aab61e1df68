use Rattle.model.specs.Names.{name_eq}
use Rattle.hierarchy.proofs.Indices.{SameFrom}
use Rattle.model.specs.Pool.{class_name_at}
use Rattle.hierarchy.proofs.cycles.has_interface.Given as goal

abbrev pub invariant-loop-index : goal.invariant-loop-index
invariant-loop-index l = SameFrom (λ s. name_eq s l.interface) (class_name_at l.file.pool) l.file.interfaces.items l.index-index
