use Rattle.command_line.proofs.parsers.with_window.Goals as goal

pub returns : goal.returns
returns c = λ app made.
    let one = c.with_argument-command.ensures _ _ made c.argument.ensures.rule c.argument.ensures.local in
    let two = c.with_argument-command-2.ensures _ _ one c.argument-2.ensures.rule c.argument-2.ensures.local in
    c.with_argument.ensures _ _ two c.list_argument.ensures.rule c.list_argument.ensures.local
