use Rattle.command_line.proofs.parsers.with_places.Goals as goal

pub returns : goal.returns
returns c = λ app made.
    let one = c.with_argument-command.ensures _ _ made c.flag_argument.ensures.rule c.flag_argument.ensures.local in
    let two = c.with_argument-command-2.ensures _ _ one c.path_argument.ensures.rule c.path_argument.ensures.local in
    let three = c.with_argument-command-3.ensures _ _ two c.any_files_argument.ensures.rule c.any_files_argument.ensures.local in
    let four = c.with_argument-command-4.ensures _ _ three c.main_argument.ensures.rule c.main_argument.ensures.local in
    c.with_argument.ensures _ _ four c.alone_argument.ensures.rule c.alone_argument.ensures.local
