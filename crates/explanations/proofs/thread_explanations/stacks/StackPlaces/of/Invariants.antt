use Rattle.std.proofs.Common.{length}
use Rattle.explanations.proofs.thread_explanations.stacks.StackPlaces.of.Given as goal

abbrev pub decreases-loop-told : goal.decreases-loop-told
decreases-loop-told l = length l.entries
