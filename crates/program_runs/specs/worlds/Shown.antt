-- The world that the fields of one show.
use Rattle.std.specs.Arc.{arc_value}
use Rattle.program_runs.specs.declared.worlds.world.World.TheInside.{Inside}
use Rattle.program_runs.specs.worlds.Worlds.{WorldOf}

abbrev pub shown : Inside → WorldOf
shown w = record { trees = arc_value w.verified; budget = w.budget; events = w.recorded.events; machine = w.machine; end = w.end }
