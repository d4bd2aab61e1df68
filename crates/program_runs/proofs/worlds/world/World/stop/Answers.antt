use Rattle.program_runs.proofs.worlds.Shared.{ends_where_stopped, none_of, none_stops}
use Rattle.program_runs.proofs.worlds.world.World.stop.Goals as goal

pub returns-in_default : goal.returns-in_default
returns-in_default c =
    none_stops _ c.args.self.now c.self.view_is (none_of c.self.inside.end c.is_some.result c.is_some.ensures c.if-is_some.false) c.in_default.ensures

pub invariant_of-self : goal.invariant_of-self
invariant_of-self c =
    ends_where_stopped c.reports_of_words.ensures.holds _ c.self.invariant 0 c.in-Some._thread c.in-Some.ensures c.len-self-inside.result c.len-self-inside.ensures
