use Rattle.command_line.proofs.parsers.with_program.Goals as goal

pub returns : goal.returns
returns c = λ app made.
    let one = c.with_limits-command.ensures _ made in
    let two = c.with_argument-command.ensures _ _ one c.main_argument.ensures.rule c.main_argument.ensures.local in
    c.with_argument.ensures _ _ two c.alone_argument.ensures.rule c.alone_argument.ensures.local
