use Rattle.command_line.proofs.parsers.with_made_file.Goals as goal

pub returns : goal.returns
returns c = λ app made.
    let one = c.with_argument-command.ensures _ _ made c.flag_argument.ensures.rule c.flag_argument.ensures.local in
    c.with_argument.ensures _ _ one c.argument.ensures.rule c.argument.ensures.local
