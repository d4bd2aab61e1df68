use Rattle.command_line.proofs.parsers.with_shrink_options.Goals as goal

pub returns : goal.returns
returns c = λ app made.
    let one = c.with_argument-command.ensures _ _ made c.required_goal_argument.ensures.rule c.required_goal_argument.ensures.local in
    let two = c.with_schedule-command.ensures _ one in
    let three = c.with_argument-command-2.ensures _ _ two c.argument.ensures.rule c.argument.ensures.local in
    c.with_record.ensures _ three
