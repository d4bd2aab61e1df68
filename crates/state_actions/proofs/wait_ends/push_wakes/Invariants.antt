use Rattle.std.proofs.Common.{◌≡◌, ◌++◌, map}
use Rattle.race_places.specs.declared.run_actions.Action.TheVariants as action
use Rattle.state_actions.specs.wait_ends.Ends.{listed_below}
use Rattle.state_actions.proofs.wait_ends.push_wakes.Given as goal

abbrev pub invariant-threads : goal.invariant-threads
invariant-threads l = l.actions.items ≡ l.fn.actions.items ++ map (λ u. action.Wake u) (listed_below l.waiting l.thread)
