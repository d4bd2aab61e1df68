use Rattle.std.specs.Arc.{arc_value}
use Rattle.search.proofs.Shown.{opened_if}
use Rattle.search.proofs.machines.opened.Goals as goal

pub returns : goal.returns
returns c = opened_if c.runs_are_opened.ensures.holds (arc_value c.args.program) c.args.limits c.open.result c.open.ensures
