use Rattle.command_line.proofs.parsers.with_races.Goals as goal

pub returns : goal.returns
returns c = λ app made. c.with_argument.ensures _ _ made c.flag_argument.ensures.rule c.flag_argument.ensures.local
