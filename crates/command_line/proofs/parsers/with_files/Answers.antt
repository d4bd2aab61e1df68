use Rattle.command_line.proofs.parsers.with_files.Goals as goal

pub returns : goal.returns
returns c = λ app made.
    let one = c.with_argument-command.ensures _ _ made c.flag_argument.ensures.rule c.flag_argument.ensures.local in
    let two = c.with_argument-command-2.ensures _ _ one c.flag_argument-2.ensures.rule c.flag_argument-2.ensures.local in
    c.with_argument.ensures _ _ two c.files_argument.ensures.rule c.files_argument.ensures.local
