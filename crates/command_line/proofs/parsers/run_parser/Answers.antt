use Rattle.command_line.proofs.parsers.run_parser.Goals as goal

pub returns : goal.returns
returns c =
    let one = c.with_run_options-run.ensures _ c.titled.ensures in
    let two = c.with_sweep_options-run.ensures _ one in
    let three = c.with_record-run.ensures _ two in
    let four = c.with_follow-run.ensures _ three in
    let five = c.with_races-run.ensures _ four in
    c.with_files.ensures _ five
