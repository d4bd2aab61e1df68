use Rattle.std.proofs.Common.{◌∙◌, ap, sym, Some, None}
use Rattle.command_line.proofs.CommandLineLemmas.{first_is}
use Rattle.command_line.proofs.values.path_of.Goals as goal

pub returns-in_ok-from_str-in-Some : goal.returns-in_ok-from_str-in-Some
returns-in_ok-from_str-in-Some c = first_is c.args.matches.now c.args.option.now (Some c.in-Some.path.now) c.in-Some.ensures ∙ ap Some (sym c.in_ok-from_str-in-Some.ensures.ok)

pub returns-in-None : goal.returns-in-None
returns-in-None c = first_is c.args.matches.now c.args.option.now None c.in-None.ensures
