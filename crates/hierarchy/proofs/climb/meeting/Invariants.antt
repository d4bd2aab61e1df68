use Rattle.std.proofs.Common.{◌≡◌}
use Rattle.model.specs.TypeJoin.{class_join}
use Rattle.hierarchy.specs.Places.{name_at}
use Rattle.hierarchy.specs.Lineages.{IsLevel}
use Rattle.hierarchy.proofs.climb.meeting.Given as goal

abbrev pub invariant-loop-step : goal.invariant-loop-step
invariant-loop-step l = record {
  level : IsLevel l.table l.level.first l.level.second;
  join : class_join l.set (name_at l.set l.c) (name_at l.set l.d) ≡ class_join l.set (name_at l.set l.level.first) (name_at l.set l.level.second);
}
