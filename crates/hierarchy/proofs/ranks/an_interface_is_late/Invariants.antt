use Rattle.model.specs.Pool.{class_name_at}
use Rattle.hierarchy.specs.Ranks.{is_late}
use Rattle.hierarchy.proofs.Indices.{SameFrom}
use Rattle.hierarchy.proofs.ranks.an_interface_is_late.Given as goal

abbrev pub invariant-loop-index : goal.invariant-loop-index
invariant-loop-index l = SameFrom (is_late l.set l.ranks l.fn.rank) (class_name_at l.file.pool) l.file.interfaces.items l.index-index
