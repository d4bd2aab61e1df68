use Rattle.std.proofs.Common.{◌≡◌, ◌*◌, ◌≤◌, take}
use Rattle.model.specs.Schedule.{events_of}
use Rattle.program_runs.proofs.traced_runs.Passing.{HasPassed}
use Rattle.program_runs.proofs.traced_runs.run.gathered.Given as goal

abbrev pub invariant-entries : goal.invariant-entries
invariant-entries g l = record {
  below : l.done ≤ l.given-index * 4294967295;
  so_far : HasPassed l.telling.names.now.linked.now l.telling.window l.fn.machine 0 (events_of (take l.given-index l.given-items)) l.done
      l.machine (g.W.Sink.contents l.fn.output) (g.W.Sink.contents l.output)
      l.fn.lines.text.items l.lines.text.items;
  failures : g.W.Sink.failures l.output ≡ g.W.Sink.failures l.fn.output;
}
