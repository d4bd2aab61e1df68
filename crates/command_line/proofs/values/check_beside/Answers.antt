use Rattle.std.proofs.Common.{Some, None}
use Rattle.command_line.proofs.CommandLineLemmas.{first_is, refuses}
use Rattle.command_line.proofs.SweepLemmas.{isnt_there}
use Rattle.command_line.proofs.values.check_beside.Goals as goal

pub returns-in-Some-clause-none : goal.returns-in-Some-clause-none
returns-in-Some-clause-none c =
    refuses c.not_provided.result _ c.not_provided.ensures
    (isnt_there _ c.in-Some.field-0.now (first_is c.args.matches.now c.args.name.now (Some c.in-Some.field-0.now) c.in-Some.ensures))

pub returns-in-None-clause-ok : goal.returns-in-None-clause-ok
returns-in-None-clause-ok c = first_is c.args.matches.now c.args.name.now None c.in-None.ensures
