use Rattle.std.proofs.Common.{[], sym}
use Rattle.schedule.proofs.Fewest.{fewest}
use Rattle.schedule.proofs.joining.joined_entries_are_fewest.Goals as goal

pub returns : goal.returns
returns c joined entries runs fits is = fewest entries joined [] fits runs (sym is)
