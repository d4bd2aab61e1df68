use Rattle.std.proofs.Common.{Some, None, refl}
use Rattle.command_line.proofs.CommandLineLemmas.{first_is}
use Rattle.command_line.proofs.values.is_set.Goals as goal

pub returns-in-Some : goal.returns-in-Some
returns-in-Some c = rw (first_is c.args.matches.now c.args.flag.now (Some c.in-Some.text.now) c.in-Some.ensures) c.eq.ensures

pub returns-in-None : goal.returns-in-None
returns-in-None c = rw (first_is c.args.matches.now c.args.flag.now None c.in-None.ensures) refl
