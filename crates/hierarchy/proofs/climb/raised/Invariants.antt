use Rattle.std.proofs.Common.{◌≡◌, ◌-◌, ◌<◌, length}
use Rattle.hierarchy.specs.Places.{name_at}
use Rattle.hierarchy.specs.Lineages.{depth_in, class_above}
use Rattle.hierarchy.proofs.climb.raised.Given as goal

abbrev pub invariant-loop-step : goal.invariant-loop-step
invariant-loop-step l = record {
  within : l.raised < length l.table;
  same : class_above l.set (depth_in l.table l.place - l.depth) (name_at l.set l.place) ≡ class_above l.set (depth_in l.table l.raised - l.depth) (name_at l.set l.raised);
}
