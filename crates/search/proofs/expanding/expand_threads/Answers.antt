use Rattle.std.proofs.Common.{arith, rules, tests}
use Rattle.search.proofs.Expanded.{IsThreadMet, thread_kept, goes_again, gives_up, all_threads}
use Rattle.search.proofs.Growth.{still_state, within}
use Rattle.search.proofs.expanding.expand_threads.Goals as goal

pub expand_thread-requires-clause-number : goal.expand_thread-requires-clause-number
expand_thread-requires-clause-number c = within c.args.walk.states c.threads.walk.states c.threads.invariant.0.grows c.args.number c.requires.number

pub expand_thread-requires-clause-state : goal.expand_thread-requires-clause-state
expand_thread-requires-clause-state c =
    still_state c.args.walk.states c.threads.walk.states c.threads.invariant.0.grows c.args.number c.requires.number c.args.state.now c.requires.state

pub threads-preserved : goal.threads-preserved
threads-preserved c =
    let walk = c.in_ok-went_on.further in
    goes_again (IsThreadMet c.args.number) c.args.most c.args.number c.args.walk.states c.threads.walk.states walk.states c.threads.thread walk
    (thread_kept c.met_states_are_kept.ensures.holds c.args.number c.threads.walk.states walk.states (within c.args.walk.states c.threads.walk.states c.threads.invariant.0.grows c.args.number c.requires.number))
    c.threads.invariant.0 c.in_ok-went_on.went_on c.in_ok-went_on.ensures (search (rules, tests))

pub returns-then-not-went_on : goal.returns-then-not-went_on
returns-then-not-went_on c =
    let grown = c.in_ok-went_on.ensures in
    gives_up (IsThreadMet c.args.number) c.args.most _ c.args.walk.states c.threads.walk.states c.in_ok-went_on.further.states c.threads.thread c.threads.invariant.0 grown.grows grown.few
    (grown.gave_up (search (rules, tests)))

pub returns : goal.returns
returns c = all_threads c.args.most c.args.number c.args.threads c.threads.thread c.args.walk.states c.threads.walk.states c.threads.walk (omega arith) c.threads.invariant.0 c.threads.invariant.1
