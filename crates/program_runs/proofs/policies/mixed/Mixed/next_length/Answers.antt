use Rattle.program_runs.specs.policies.Keeping.{kept_by}
use Rattle.program_runs.proofs.policies.Mixing.{length_is}
use Rattle.program_runs.proofs.policies.mixed.Mixed.next_length.Goals as goal

pub returns-clause-drawn : goal.returns-clause-drawn
returns-clause-drawn c =
    length_is (kept_by c.args.self.now) c.args.self.now.lengths c.next.new.self _ _ c.next.result c.args.self.now.last c.args.thread c.turn_of-turn.result c.turn_of-turn.ensures c.next.ensures.length
