use Rattle.std.proofs.Common.{◌∙◌, ap, inr, refl, subst, rules, tests, Some, arith}
use Rattle.search.specs.Machines.{GoesOrStops}
use Rattle.search.specs.States.{AreMetByThread, HasGoneFrom}
use Rattle.search.specs.Walks.{IsThere}
use Rattle.search.proofs.Expanded.{IsPickMet, crowded, event_at, goes_again, gives_up, limited, pick_kept, pick_met, thread_met}
use Rattle.search.proofs.Growth.{within, stays, still_state}
use Rattle.search.proofs.expanding.expand_thread.Goals as goal

pub meet-requires-clause-number : goal.meet-requires-clause-number
meet-requires-clause-number c = within c.args.walk.states c.picks.walk.states c.picks.invariant.0.grows c.args.number c.requires.number

pub meet-requires-clause-state : goal.meet-requires-clause-state
meet-requires-clause-state c = still_state c.args.walk.states c.picks.walk.states c.picks.invariant.0.grows c.args.number c.requires.number c.args.state.now c.requires.state

pub meet-requires-clause-has_gone : goal.meet-requires-clause-has_gone
meet-requires-clause-has_gone c = (
  c.picks.walk.machine,
  c.picks.invariant.1.is_in,
  subst (λ r. GoesOrStops r (event_at c.args.thread c.picks.pick) c.picks.walk.machine c.go_on.new.machine) (c.in-Some-Done.is ∙ ap Some c.in-Some-Done.field-0-is) c.in_ok-go_on.ensures,
)

pub returns-in-Some-NotEnabled : goal.returns-in-Some-NotEnabled
returns-in-Some-NotEnabled c =
    thread_met c.higher_picks_are_left.ensures.holds c.args.most c.args.number c.args.thread c.picks.pick c.args.walk.states c.picks.walk.states c.picks.walk _ c.picks.invariant.0 c.picks.invariant.1 refl
    (subst (λ r. GoesOrStops r (event_at c.args.thread c.picks.pick) c.picks.walk.machine c.go_on.new.machine) (c.in-Some-NotEnabled.is ∙ ap Some c.in-Some-NotEnabled.field-0-is) c.in_ok-go_on.ensures)

pub picks-preserved : goal.picks-preserved
picks-preserved c =
    let there = within c.args.walk.states c.picks.walk.states c.picks.invariant.0.grows c.args.number c.requires.number in
    let gone : HasGoneFrom c.picks.walk.states c.args.number (event_at c.args.thread c.picks.pick) c.go_on.new.machine = (
      c.picks.walk.machine,
      c.picks.invariant.1.is_in,
      subst (λ r. GoesOrStops r (event_at c.args.thread c.picks.pick) c.picks.walk.machine c.go_on.new.machine) (c.in-Some-Done.is ∙ ap Some c.in-Some-Done.field-0-is) c.in_ok-go_on.ensures,
    ) in
    let went = c.in_ok-added-in-Some-Done.added in
    let walk = c.in_ok-added-in-Some-Done.further in
    goes_again (IsPickMet c.args.number c.args.thread) c.args.most c.args.number c.args.walk.states c.picks.walk.states walk.states c.picks.pick walk
    (pick_kept c.met_states_are_kept.ensures.holds c.args.number c.args.thread c.picks.walk.states walk.states there) c.picks.invariant.0 went
    (pick_met c.args.most c.args.number c.args.thread c.picks.pick c.picks.walk.states walk.states c.go_on.new.machine walk there gone went c.in_ok-added-in-Some-Done.ensures)
    (search (rules, tests))

pub returns-then-not-added : goal.returns-then-not-added
returns-then-not-added c =
    let grown = c.in_ok-added-in-Some-Done.ensures in
    let walk = c.in_ok-added-in-Some-Done.further in
    gives_up (IsPickMet c.args.number c.args.thread) c.args.most (λ s. AreMetByThread s c.args.number c.args.thread × IsThere s c.args.number walk) c.args.walk.states c.picks.walk.states walk.states c.picks.pick c.picks.invariant.0 grown.grows grown.few
    (grown.gave_up (search (rules, tests)))

pub returns-in-None : goal.returns-in-None
returns-in-None c =
    let there = within c.args.walk.states c.picks.walk.states c.picks.invariant.0.grows c.args.number c.requires.number in
    let event = event_at c.args.thread c.picks.pick in
    gives_up (IsPickMet c.args.number c.args.thread) c.args.most _ c.args.walk.states c.picks.walk.states c.picks.walk.states c.picks.pick c.picks.invariant.0 (stays c.picks.walk.states) (λ le. le)
    (inr (limited c.picks.walk.states c.args.number event c.picks.walk.machine c.go_on.new.machine there c.picks.invariant.1.is_in
    (subst (λ r. GoesOrStops r event c.picks.walk.machine c.go_on.new.machine) c.in-None.is c.in_ok-go_on.ensures)))

pub returns : goal.returns
returns c =
    let there = within c.args.walk.states c.picks.walk.states c.picks.invariant.0.grows c.args.number c.requires.number in
    gives_up (IsPickMet c.args.number c.args.thread) c.args.most _ c.args.walk.states c.picks.walk.states c.picks.walk.states c.picks.pick c.picks.invariant.0 (stays c.picks.walk.states) (λ le. le)
    (inr (crowded c.args.most c.args.number c.args.thread c.picks.pick c.args.walk.states c.picks.walk.states there (omega (arith, c.picks-test.false)) c.picks.invariant.0))
