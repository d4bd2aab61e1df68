use Rattle.std.proofs.Common.{◌≤◌, length}
use Rattle.search.specs.RacyStates.{HasRaceAt}
use Rattle.search.specs.Visits.{HasVisited}
use Rattle.search.proofs.searching.visit_all.Given as goal

abbrev pub invariant-states : goal.invariant-states
invariant-states g l =
    HasVisited l.asked.linked.now l.fn.walk.states.limits l.asked.goal.now l.walk.states l.visited.seen l.number
    × (1 ≤ l.asked.most → length l.walk.states.schedules ≤ l.asked.most)
    × HasRaceAt l.asked.linked.now l.fn.walk.states.limits l.walk.states l.visited.seen.kinds.race l.visited.race
