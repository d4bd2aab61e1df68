use Rattle.std.proofs.Common.{Some, None, codes}
use Rattle.command_line.proofs.ClashLemmas.{none_of_sweep, told_of_run}
use Rattle.command_line.proofs.CommandLineLemmas.{first_is}
use Rattle.command_line.proofs.parse.clash_of.Goals as goal

pub returns-in-Some : goal.returns-in-Some
returns-in-Some c = none_of_sweep _ c.in-Some.field-0.now _ (first_is c.args.matches.now (codes "seeds") (Some c.in-Some.field-0.now) c.in-Some.ensures)

pub returns-in-None : goal.returns-in-None
returns-in-None c = told_of_run _ _ c.clash.result (first_is c.args.matches.now (codes "seeds") None c.in-None.ensures) c.clash.ensures
