use Rattle.model.specs.Pool.{class_name_at}
use Rattle.hierarchy.specs.Fields.{is_below_other}
use Rattle.hierarchy.proofs.Indices.{SameFrom}
use Rattle.hierarchy.proofs.fields.has_interface_below_other.Given as goal

abbrev pub invariant-loop-index : goal.invariant-loop-index
invariant-loop-index l = SameFrom (is_below_other l.set) (class_name_at l.file.pool) l.file.interfaces.items l.index-index
