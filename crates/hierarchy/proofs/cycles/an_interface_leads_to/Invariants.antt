use Rattle.hierarchy.specs.Above.{leads_to}
use Rattle.hierarchy.proofs.Indices.{SameFrom}
use Rattle.model.specs.Pool.{class_name_at}
use Rattle.hierarchy.proofs.cycles.an_interface_leads_to.Given as goal

abbrev pub invariant-loop-index : goal.invariant-loop-index
invariant-loop-index l = SameFrom (leads_to l.set l.other) (class_name_at l.file.pool) l.file.interfaces.items l.index-index
