use Rattle.std.proofs.Common.{◌≡◌, ◌≤◌, ◌+◌, drop}
use Rattle.model.specs.Schedule.{events_of}
use Rattle.shrinking.specs.Switches.{switches_behind}
use Rattle.shrinking.proofs.switches.switches_from.Given as goal

-- those so far, and those behind
abbrev pub invariant-entries : goal.invariant-entries
invariant-entries l =
    (l.count + switches_behind l.thread (events_of (drop l.entry-index l.entries)) ≡ switches_behind l.fn.before (events_of l.entries)) × (l.count ≤ l.entry-index)
