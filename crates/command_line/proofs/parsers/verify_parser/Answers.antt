use Rattle.command_line.proofs.parsers.verify_parser.Goals as goal

pub returns : goal.returns
returns c =
    let one = c.with_argument-verify.ensures _ _ c.titled.ensures c.flag_argument.ensures.rule c.flag_argument.ensures.local in
    let two = c.with_argument-verify-2.ensures _ _ one c.main_argument.ensures.rule c.main_argument.ensures.local in
    let three = c.with_argument-verify-3.ensures _ _ two c.alone_argument.ensures.rule c.alone_argument.ensures.local in
    c.with_files.ensures _ three
