use Rattle.command_line.proofs.parsers.races_parser.Goals as goal

pub returns : goal.returns
returns c =
    let one = c.with_schedule-races.ensures _ c.titled.ensures in
    let two = c.with_program-races.ensures _ one in
    c.with_files.ensures _ two
