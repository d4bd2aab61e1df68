use Rattle.std.proofs.Common.{refl}
use Rattle.engines.proofs.commands.wanted_outcomes.printed_text.Goals as goal

pub returns : goal.returns
returns c = (c.in_ok-from_slice.field-0, refl, c.in_ok-from_slice.ensures.items)
