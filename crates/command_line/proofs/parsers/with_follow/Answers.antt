use Rattle.command_line.proofs.parsers.with_follow.Goals as goal

pub returns : goal.returns
returns c = λ app made.
    let one = c.with_program-command.ensures _ made in
    c.with_argument.ensures _ _ one c.flag_argument.ensures.rule c.flag_argument.ensures.local
