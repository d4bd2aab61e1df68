use Rattle.command_line.proofs.parsers.shrink_parser.Goals as goal

pub returns : goal.returns
returns c =
    let one = c.with_shrink_options-shrink.ensures _ c.titled.ensures in
    let two = c.with_program-shrink.ensures _ one in
    c.with_files.ensures _ two
