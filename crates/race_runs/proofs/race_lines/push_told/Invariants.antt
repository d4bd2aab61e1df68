use Rattle.std.proofs.Common.{take}
use Rattle.race_runs.specs.race_lines.Lines.{AddsRaceLines}
use Rattle.race_runs.proofs.race_lines.push_told.Given as goal

abbrev pub invariant-races : goal.invariant-races
invariant-races l = AddsRaceLines l.names.linked.now (take l.place l.told.races.keys) l.fn.text.items l.text.items
