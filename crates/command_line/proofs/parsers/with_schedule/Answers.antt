use Rattle.command_line.proofs.parsers.with_schedule.Goals as goal

pub returns : goal.returns
returns c = λ app made.
    let one = c.with_argument-command.ensures _ _ made c.schedule_argument.ensures.rule c.schedule_argument.ensures.local in
    c.with_argument.ensures _ _ one c.any_files_argument.ensures.rule c.any_files_argument.ensures.local
