use Rattle.program_runs.proofs.worlds.Recording.{of_turns, keeps}
use Rattle.program_runs.proofs.worlds.world.World.into_recorded.Goals as goal

pub returns-clause-of : goal.returns-clause-of
returns-clause-of c = of_turns c.args.self c.finish-end.new.self c.finish-end.result c.finish-end.ensures.turns c.told.result c.told.ensures

pub returns-clause-keeps : goal.returns-clause-keeps
returns-clause-keeps c = keeps c.args.self c.finish-end.new.self c.finish-end.result c.finish-end.ensures.turns c.finish-end.ensures.ended c.told.result c.told.ensures
