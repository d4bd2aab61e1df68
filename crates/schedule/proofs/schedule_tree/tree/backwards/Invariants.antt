use Rattle.schedule.proofs.schedule_tree.Ways.{IsBack}
use Rattle.schedule.proofs.schedule_tree.tree.backwards.Given as goal

abbrev pub invariant-back : goal.invariant-back
invariant-back l = IsBack l.nodes l.number l.at l.entries.items

abbrev pub decreases-back : goal.decreases-back
decreases-back l = l.at
