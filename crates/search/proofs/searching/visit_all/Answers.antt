use Rattle.std.proofs.Common.{◌≡◌, arith, inl, inr, length, refl, subst, sym}
use Rattle.search.proofs.RacyStates.{race_by}
use Rattle.search.proofs.Whole.{by_own_limits, found_by, gave_up_by, visited_by}
use Rattle.search.specs.RacyStates.{HasRaceAt, TellsRaceAt}
use Rattle.search.specs.Verdicts.{Says}
use Rattle.search.specs.Visits.{HasVisited, nothing_visited}
use Rattle.search.specs.declared.visiting.SeenStates.{SeenStates}
use Rattle.search.proofs.searching.visit_all.Goals as goal

pub states-init : goal.states-init
states-init g c =
    let trees = c.args.asked.now.linked.now in
    let walk = c.args.walk in
    let none : HasRaceAt trees walk.states.limits walk.states nothing_visited.seen.kinds.race nothing_visited.race = refl in (
      subst (λ (v : SeenStates). HasVisited trees walk.states.limits c.args.asked.now.goal.now walk.states v.seen 0) (sym c.new-visited.ensures) c.requires.visited,
      c.requires.few,
      subst (λ (v : SeenStates). HasRaceAt trees walk.states.limits walk.states v.seen.kinds.race v.race) (sym c.new-visited.ensures) none,
    )

pub answered-requires-clause-visited : goal.answered-requires-clause-visited
answered-requires-clause-visited g c =
    by_own_limits c.args.asked.now.linked.now c.args.walk.states.limits c.args.asked.now.goal.now c.states.walk.states c.states.visited.seen c.states.number c.states.invariant.0

pub answered-requires-clause-race : goal.answered-requires-clause-race
answered-requires-clause-race g c =
    subst (λ l. HasRaceAt c.args.asked.now.linked.now l c.states.walk.states c.states.visited.seen.kinds.race c.states.visited.race) (sym c.states.invariant.0.limits_are)
    c.states.invariant.2

pub returns-then-number-len-clause-says : goal.returns-then-number-len-clause-says
returns-then-number-len-clause-says g c =
    let stop = g.P.Progress.may_stop c.args.progress.now in
    subst (λ l. Says c.args.asked.now.linked.now l c.args.asked.now.goal.now stop c.args.asked.now.most (length c.states.walk.states.schedules) c.in_ok-verdict.verdict) c.states.invariant.0.limits_are
    (c.in_ok-verdict.ensures.says stop c.args.asked.now.most)

pub returns-then-number-len-clause-race : goal.returns-then-number-len-clause-race
returns-then-number-len-clause-race g c =
    subst (λ l. TellsRaceAt c.args.asked.now.linked.now l c.states.walk.states c.in_ok-verdict.verdict c.in_ok-verdict.race) c.states.invariant.0.limits_are
    c.in_ok-verdict.ensures.race

pub answered-requires-2-clause-visited : goal.answered-requires-2-clause-visited
answered-requires-2-clause-visited g c =
    let all : c.states.number ≡ c.args.asked.now.most = omega (arith, c.states-test.false, c.states.auto.number-end) in
    by_own_limits c.args.asked.now.linked.now c.args.walk.states.limits c.args.asked.now.goal.now c.states.walk.states c.states.visited.seen c.args.asked.now.most
    (subst (HasVisited c.args.asked.now.linked.now c.args.walk.states.limits c.args.asked.now.goal.now c.states.walk.states c.states.visited.seen) all c.states.invariant.0)

pub answered-requires-2-clause-race : goal.answered-requires-2-clause-race
answered-requires-2-clause-race g c =
    subst (λ l. HasRaceAt c.args.asked.now.linked.now l c.states.walk.states c.states.visited.seen.kinds.race c.states.visited.race) (sym c.states.invariant.0.limits_are)
    c.states.invariant.2

pub returns-clause-says : goal.returns-clause-says
returns-clause-says g c =
    let stop = g.P.Progress.may_stop c.args.progress.now in
    subst (λ l. Says c.args.asked.now.linked.now l c.args.asked.now.goal.now stop c.args.asked.now.most (length c.states.walk.states.schedules) c.in_ok-verdict-2.verdict) c.states.invariant.0.limits_are
    (c.in_ok-verdict-2.ensures.says stop c.args.asked.now.most)

pub returns-clause-race : goal.returns-clause-race
returns-clause-race g c =
    subst (λ l. TellsRaceAt c.args.asked.now.linked.now l c.states.walk.states c.in_ok-verdict-2.verdict c.in_ok-verdict-2.race) c.states.invariant.0.limits_are
    c.in_ok-verdict-2.ensures.race

pub returns-then-is_over-clause-says : goal.returns-then-is_over-clause-says
returns-then-is_over-clause-says g c = inl (c.is_over.ensures c.if-is_over.true)

pub visit_state-requires-clause-race : goal.visit_state-requires-clause-race
visit_state-requires-clause-race g c =
    subst (λ l. HasRaceAt c.args.asked.now.linked.now l c.states.walk.states c.states.visited.seen.kinds.race c.states.visited.race) (sym c.states.invariant.0.limits_are)
    c.states.invariant.2

pub states-preserved : goal.states-preserved
states-preserved g c = (
  visited_by c.args.asked.now.linked.now c.args.walk.states.limits c.args.asked.now.goal.now c.states.walk.states c.states.visited.seen c.states.number c.states.invariant.0 c.args.asked.now.most
      c.in_ok-visit.visit c.in_ok-visit.further.states c.visit_state.new.states.seen c.in_ok-visit.ensures.visits c.in-Visited.is,
  λ le. c.in_ok-visit.ensures.few (c.states.invariant.1 le),
  race_by c.args.asked.now.linked.now c.args.walk.states.limits c.states.walk.states.limits c.states.invariant.0.limits_are c.in_ok-visit.visit c.in_ok-visit.further.states
      c.visit_state.new.states c.in_ok-visit.ensures.race c.in-Visited.is,
)

pub returns-in-Found-clause-says : goal.returns-in-Found-clause-says
returns-in-Found-clause-says g c =
    found_by c.args.asked.now.linked.now c.args.walk.states.limits c.args.asked.now.goal.now c.states.walk.states c.states.visited.seen c.states.number c.states.invariant.0 c.args.asked.now.most
    c.in_ok-visit.visit c.in_ok-visit.further.states c.visit_state.new.states.seen c.in-Found.schedule c.in_ok-visit.ensures.visits c.in-Found.is

pub returns-in-GaveUp-clause-says : goal.returns-in-GaveUp-clause-says
returns-in-GaveUp-clause-says g c =
    inr (gave_up_by c.args.asked.now.linked.now c.args.walk.states.limits c.args.asked.now.goal.now c.states.walk.states c.states.visited.seen c.states.number c.states.invariant.0 c.args.asked.now.most
    c.in_ok-visit.visit c.in_ok-visit.further.states c.visit_state.new.states.seen c.in_ok-visit.ensures.visits c.in-GaveUp.is)
