use Rattle.command_line.proofs.parsers.with_then_run.Goals as goal

pub returns : goal.returns
returns c = λ app made.
    let one = c.with_argument-command.ensures _ _ made c.flag_argument.ensures.rule c.flag_argument.ensures.local in
    let two = c.with_argument-command-2.ensures _ _ one c.argument.ensures.rule c.argument.ensures.local in
    c.with_record.ensures _ two
