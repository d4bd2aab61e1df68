use Rattle.std.proofs.Common.{refl}
use Rattle.engines.proofs.commands.wanted_outcomes.printed.Goals as goal

pub returns : goal.returns
returns c = (c.in_ok-printed_lines.field-0, refl, c.in_ok-printed_lines.ensures)
