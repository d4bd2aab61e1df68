use Rattle.command_line.proofs.parsers.replay_parser.Goals as goal

pub returns : goal.returns
returns c =
    let one = c.with_schedule-replay.ensures _ c.titled.ensures in
    let two = c.with_then_run-replay.ensures _ one in
    let three = c.with_follow-replay.ensures _ two in
    c.with_files.ensures _ three
