use Rattle.std.specs.Arc.{arc_value}
use Rattle.std.proofs.Common.{ap, subst}
use Rattle.search.specs.RacyStates.{TellsRaceAt}
use Rattle.search.specs.States.{StatesOf}
use Rattle.search.proofs.RacyStates.{number_of, race_told}
use Rattle.search.proofs.Whole.{none_visited_in, one_in, says_in}
use Rattle.search.proofs.searching.search.Goals as goal

pub visit_all-requires-clause-visited : goal.visit_all-requires-clause-visited
visit_all-requires-clause-visited g c =
    none_visited_in c.args.linked.now c.args.limits c.args.goal.now (arc_value c.args.program) c.in_ok-states.states c.in_ok-states.ensures c.requires

pub visit_all-requires-clause-few : goal.visit_all-requires-clause-few
visit_all-requires-clause-few g c =
    one_in c.args.linked.now c.args.limits c.args.goal.now (arc_value c.args.program) c.in_ok-states.states c.in_ok-states.ensures c.args.most

pub returns-clause-says : goal.returns-clause-says
returns-clause-says g c =
    says_in c.args.linked.now c.args.limits c.args.goal.now (arc_value c.args.program) c.in_ok-states.states c.in_ok-states.ensures (g.P.Progress.may_stop c.args.progress.now) c.args.most _ c.len.result c.len.ensures c.in_ok-verdict.verdict c.in_ok-verdict.ensures.says

pub race_schedule-requires : goal.race_schedule-requires
race_schedule-requires g c =
    number_of c.args.linked.now c.in_ok-states.states.limits c.in_ok-verdict.walk.states c.in_ok-verdict.verdict c.in_ok-verdict.race c.in_ok-verdict.ensures.race

pub returns-clause-race : goal.returns-clause-race
returns-clause-race g c =
    let walk = c.in_ok-verdict.walk in
    let told = subst (λ l. TellsRaceAt c.args.linked.now l walk.states c.in_ok-verdict.verdict c.in_ok-verdict.race) (ap (λ (x : StatesOf). x.limits) c.in_ok-states.ensures) c.in_ok-verdict.ensures.race in
    race_told c.args.linked.now c.args.limits walk.states c.in_ok-verdict.verdict c.in_ok-verdict.race told c.in_ok-race.race c.in_ok-race.ensures
