use Rattle.command_line.proofs.parsers.with_form.Goals as goal

pub returns : goal.returns
returns c = λ app made.
    let one = c.with_argument-command.ensures _ _ made c.flag_argument.ensures.rule c.flag_argument.ensures.local in
    let two = c.with_argument-command-2.ensures _ _ one c.flag_argument-2.ensures.rule c.flag_argument-2.ensures.local in
    let three = c.with_argument-command-3.ensures _ _ two c.flag_argument-3.ensures.rule c.flag_argument-3.ensures.local in
    c.with_argument.ensures _ _ three c.path_argument.ensures.rule c.path_argument.ensures.local
