use Rattle.std.proofs.Common.{false, true, sym, subst, ◌∙◌}
use Rattle.std.proofs.lemmas.Result.{IfOk-weaker}
use Rattle.search.specs.Endless.{IsFoundAt}
use Rattle.search.specs.RacyStates.{KeepsRace}
use Rattle.search.specs.declared.searching.Verdict.{Verdict}
use Rattle.search.proofs.RacyStates.{kinds_kept}
use Rattle.search.proofs.Whole.{none_answered, one_answered, one_found}
use Rattle.search.proofs.searching.completed.Goals as goal

pub returns-in-None-clause-says : goal.returns-in-None-clause-says
returns-in-None-clause-says c =
    none_answered c.args.asked.now.linked.now c.args.states.now.limits c.args.asked.now.goal.now c.args.states.now c.args.seen c.args.below c.requires.visited c.requires.all
    c.searches_are_whole.ensures.holds c.schedules_are_complete.ensures.holds c.races_are_told_by_words.ensures.holds c.kinds_are_met.ensures.holds c.endless_states_are_told.ensures.holds
    c.in_ok-endless_number.field-0 c.in_ok-endless_number.ensures.endless c.in-None.is c.endless-none.result c.and.result c.endless-none.ensures c.and.ensures

pub returns-then-is_among-clause-says : goal.returns-then-is_among-clause-says
returns-then-is_among-clause-says c =
    IfOk-weaker c.found_endless.result _ _
    (one_found c.args.asked.now.linked.now c.args.states.now.limits c.args.asked.now.goal.now c.args.states.now c.args.seen c.args.below c.requires.visited c.requires.all
    c.searches_are_whole.ensures.holds c.schedules_are_complete.ensures.holds c.races_are_told_by_words.ensures.holds c.kinds_are_met.ensures.holds c.endless_states_are_told.ensures.holds
    c.in_ok-endless_number.field-0 c.in_ok-endless_number.ensures.endless c.in-Some.number c.in-Some.is c.endless_number.ensures.met c.endless-endless.result c.endless-endless.ensures
    (sym c.is_among.ensures ∙ c.if-is_among.true))
    c.found_endless.ensures

pub returns-else-is_among-clause-says : goal.returns-else-is_among-clause-says
returns-else-is_among-clause-says c =
    one_answered c.args.asked.now.linked.now c.args.states.now.limits c.args.asked.now.goal.now c.args.states.now c.args.seen c.args.below c.requires.visited c.requires.all
    c.searches_are_whole.ensures.holds c.schedules_are_complete.ensures.holds c.races_are_told_by_words.ensures.holds c.kinds_are_met.ensures.holds c.endless_states_are_told.ensures.holds
    c.in_ok-endless_number.field-0 c.in_ok-endless_number.ensures.endless c.in-Some.number c.in-Some.is c.endless_number.ensures.met c.endless-endless.result c.endless-endless.ensures
    c.and-in-Some.result (sym c.is_among.ensures ∙ c.if-is_among.false) c.and-in-Some.ensures

pub returns-in-None-clause-race : goal.returns-in-None-clause-race
returns-in-None-clause-race c = kinds_kept c.args.seen.kinds c.endless-none.result c.and.result false c.endless-none.ensures c.and.ensures

pub returns-then-is_among-clause-race : goal.returns-then-is_among-clause-race
returns-then-is_among-clause-race c =
    let kept : (v : Verdict) → IsFoundAt c.args.states.now c.in-Some.number v → KeepsRace c.args.seen.kinds v = λ v found. subst (KeepsRace c.args.seen.kinds) (sym found.1) tt in
    IfOk-weaker c.found_endless.result _ _ kept c.found_endless.ensures

pub returns-else-is_among-clause-race : goal.returns-else-is_among-clause-race
returns-else-is_among-clause-race c =
    kinds_kept c.args.seen.kinds c.endless-endless.result c.and-in-Some.result true c.endless-endless.ensures c.and-in-Some.ensures
