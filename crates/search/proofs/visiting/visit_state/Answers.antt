use Rattle.std.proofs.Common.{rules, subst, sym, tests, true}
use Rattle.model.specs.Schedule.{events_of}
use Rattle.search.specs.RacyStates.{HasRaceAt}
use Rattle.search.specs.States.{AreAllMet, GrowsTo}
use Rattle.search.specs.Verdicts.{IsRunFor}
use Rattle.search.specs.Visits.{IsSeenOr}
use Rattle.search.specs.Walks.{IsThere}
use Rattle.search.proofs.Growth.{within}
use Rattle.search.proofs.Visits.{found_there, gave_up_there, race_there, visited_there}
use Rattle.search.proofs.visiting.visit_state.Goals as goal

pub returns-then-not-went_on-clause-visits : goal.returns-then-not-went_on-clause-visits
returns-then-not-went_on-clause-visits c =
    let walk = c.in_ok-went_on.walk in
    gave_up_there c.args.asked.now.linked.now c.args.walk.states.limits c.args.asked.now.goal.now c.args.walk.states walk.states c.args.states.now.seen c.args.number c.requires.visited
    (λ s. AreAllMet s c.args.number × IsThere s c.args.number walk) c.args.asked.now.most
    (subst (GrowsTo (λ s. AreAllMet s c.args.number × IsThere s c.args.number walk) c.args.asked.now.most c.args.walk.states walk.states) (search (rules, tests)) c.in_ok-went_on.ensures)

pub schedule-requires : goal.schedule-requires
schedule-requires c = within c.args.walk.states c.in_ok-went_on.walk.states c.in_ok-went_on.ensures.grows c.args.number c.requires.number

pub returns-then-branch-clause-visits : goal.returns-then-branch-clause-visits
returns-then-branch-clause-visits c =
    let walk = c.in_ok-went_on.walk in
    let told = c.in_ok-is_found_at.ensures in
    let seen_or = subst (λ found. IsSeenOr c.args.asked.now.goal.now told.0 told.1 found c.args.states.now.seen c.is_found_at.new.states.seen) c.if-branch.true told.2.1 in
    let grown : GrowsTo (λ s. AreAllMet s c.args.number × IsThere s c.args.number walk) c.args.asked.now.most c.args.walk.states walk.states true =
    subst (GrowsTo (λ s. AreAllMet s c.args.number × IsThere s c.args.number walk) c.args.asked.now.most c.args.walk.states walk.states) (search (rules, tests)) c.in_ok-went_on.ensures in
    let found = found_there c.args.asked.now.linked.now c.args.walk.states.limits c.args.asked.now.goal.now c.args.walk.states c.args.states.now.seen c.is_found_at.new.states.seen c.args.number
    c.requires.visited c.requires.number c.met_states_are_kept.ensures.holds c.args.asked.now.most walk told.0 told.1 told.2.0 grown seen_or
    (events_of c.in_ok-schedule.schedule) c.in_ok-schedule.ensures in
    (subst (IsRunFor c.args.asked.now.linked.now c.args.walk.states.limits c.args.asked.now.goal.now) (sym c.in_ok-joined.ensures.same) found, c.in_ok-joined.ensures.joined)

pub returns-clause-visits : goal.returns-clause-visits
returns-clause-visits c =
    let walk = c.in_ok-went_on.walk in
    let told = c.in_ok-is_found_at.ensures in
    let seen_or = subst (λ found. IsSeenOr c.args.asked.now.goal.now told.0 told.1 found c.args.states.now.seen c.is_found_at.new.states.seen) c.if-branch.false told.2.1 in
    let grown : GrowsTo (λ s. AreAllMet s c.args.number × IsThere s c.args.number walk) c.args.asked.now.most c.args.walk.states walk.states true =
    subst (GrowsTo (λ s. AreAllMet s c.args.number × IsThere s c.args.number walk) c.args.asked.now.most c.args.walk.states walk.states) (search (rules, tests)) c.in_ok-went_on.ensures in
    visited_there c.args.asked.now.linked.now c.args.walk.states.limits c.args.asked.now.goal.now c.args.walk.states c.args.states.now.seen c.is_found_at.new.states.seen c.args.number
    c.requires.visited c.requires.number c.met_states_are_kept.ensures.holds c.args.asked.now.most walk told.0 told.1 told.2.0 grown seen_or

pub returns-clause-race : goal.returns-clause-race
returns-clause-race c =
    let walk = c.in_ok-went_on.walk in
    let trees = c.args.asked.now.linked.now in
    let told = c.in_ok-is_found_at.ensures in
    let seen_or = subst (λ found. IsSeenOr c.args.asked.now.goal.now told.0 told.1 found c.args.states.now.seen c.is_found_at.new.states.seen) c.if-branch.false told.2.1 in
    let grown : GrowsTo (λ s. AreAllMet s c.args.number × IsThere s c.args.number walk) c.args.asked.now.most c.args.walk.states walk.states true =
    subst (GrowsTo (λ s. AreAllMet s c.args.number × IsThere s c.args.number walk) c.args.asked.now.most c.args.walk.states walk.states) (search (rules, tests)) c.in_ok-went_on.ensures in
    let after = race_there trees c.args.walk.states.limits c.args.asked.now.goal.now c.args.walk.states c.args.states.now.seen c.is_found_at.new.states.seen c.args.number
    c.requires.visited c.requires.number c.met_states_are_kept.ensures.holds c.args.asked.now.most walk told.0 told.1 told.2.0 grown c.args.states.now.race c.requires.race seen_or in
    subst (HasRaceAt trees c.args.walk.states.limits walk.states c.is_found_at.new.states.seen.kinds.race) (sym told.2.2) after
