use Rattle.search.proofs.Expanded.{met_again}
use Rattle.search.proofs.Growth.{still_state, within}
use Rattle.search.proofs.Schedules.{past_after, past_alone}
use Rattle.search.proofs.expanding.meet.Goals as goal

pub settled-requires-clause-done : goal.settled-requires-clause-done
settled-requires-clause-done c =
    past_after c.args.walk.states c.args.number c.args.event c.in_ok-entry.entry c.requires.has_gone.0 c.args.walk.machine c.go_past.new.machine c.requires.has_gone.1 c.requires.has_gone.2 c.in_ok-entry.is_past
    c.in_ok-entry.ensures

pub add-requires-clause-alone : goal.add-requires-clause-alone
add-requires-clause-alone c =
    past_alone c.args.walk.states c.args.number c.args.event c.in_ok-entry.entry c.requires.has_gone.0 c.args.walk.machine c.go_past.new.machine c.requires.has_gone.1 c.requires.has_gone.2 c.in_ok-entry.is_past
    c.in_ok-entry.ensures

pub again-requires-clause-number : goal.again-requires-clause-number
again-requires-clause-number c = within c.args.walk.states c.in_ok-added.states c.in_ok-added.ensures.grows c.args.number c.requires.number

pub again-requires-clause-state : goal.again-requires-clause-state
again-requires-clause-state c = still_state c.args.walk.states c.in_ok-added.states c.in_ok-added.ensures.grows c.args.number c.requires.number c.args.state.now c.requires.state

pub returns : goal.returns
returns c =
    met_again c.args.most c.args.number c.args.event c.in_ok-entry.entry c.args.walk.states c.in_ok-added.states c.args.walk.machine _ c.in_ok-entry.ensures.event_is c.requires.number c.requires.has_gone
    c.in_ok-machine.ensures c.in_ok-added.added c.in_ok-added.ensures
