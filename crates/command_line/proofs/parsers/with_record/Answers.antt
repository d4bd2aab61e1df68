use Rattle.command_line.proofs.parsers.with_record.Goals as goal

pub returns : goal.returns
returns c = λ app made.
    let one = c.with_argument-command.ensures _ _ made c.record_argument.ensures.rule c.record_argument.ensures.local in
    c.with_argument.ensures _ _ one c.argument.ensures.rule c.argument.ensures.local
