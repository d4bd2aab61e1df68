use Rattle.command_line.proofs.parsers.schedule_parser.Goals as goal

pub returns : goal.returns
returns c =
    let one = c.with_made_file-schedule.ensures _ c.titled.ensures in
    let two = c.with_places-schedule.ensures _ one in
    c.with_files.ensures _ two
