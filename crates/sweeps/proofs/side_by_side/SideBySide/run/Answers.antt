use Rattle.sweeps.proofs.Queue.{others_of}
use Rattle.sweeps.proofs.side_by_side.SideBySide.run.Goals as goal

pub invariant_of-self-then-not-is_empty : goal.invariant_of-self-then-not-is_empty
invariant_of-self-then-not-is_empty g c =
    others_of c.self.inside.runs c.args.seed _ c.remove-run.new.self.items c.in_ok-fill.ensures.are c.in_ok-fill.ensures.some c.remove-run.ensures.items
