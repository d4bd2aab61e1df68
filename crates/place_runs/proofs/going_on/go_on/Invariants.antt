use Rattle.std.proofs.Common.{◌≡◌, ◌-◌, length}
use Rattle.code_places.specs.Points.{all_points}
use Rattle.place_texts.specs.Places.{PlaceOf}
use Rattle.place_runs.proofs.Going.{Going}
use Rattle.place_runs.proofs.going_on.go_on.Given as goal

-- whatever place the points are of, the events so far are within the budget, and have not brought the thread to it
abbrev pub invariant-events : goal.invariant-events
invariant-events l = (place : PlaceOf) → l.points ≡ all_points l.fn.world.trees place → Going l.thread place l.budget l.fn.world l.world

abbrev pub decreases-events : goal.decreases-events
decreases-events l = l.world.budget - length l.world.events
