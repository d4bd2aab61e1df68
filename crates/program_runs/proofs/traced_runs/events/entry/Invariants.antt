use Rattle.std.proofs.Common.{◌≡◌, ◌≤◌, ◌-◌, replicate}
use Rattle.program_runs.proofs.traced_runs.Passing.{HasPassed}
use Rattle.program_runs.proofs.traced_runs.events.entry.Given as goal

abbrev pub invariant-events : goal.invariant-events
invariant-events g l = record {
  within : l.done ≤ l.entry.repeat;
  so_far : HasPassed l.telling.names.now.linked.now l.telling.window l.fn.machine l.first (replicate l.done l.entry.event) l.done l.machine (g.W.Sink.contents l.fn.output) (g.W.Sink.contents l.output)
      l.fn.lines.text.items l.lines.text.items;
  failures : g.W.Sink.failures l.output ≡ g.W.Sink.failures l.fn.output;
}

abbrev pub decreases-events : goal.decreases-events
decreases-events g l = l.entry.repeat - l.done
