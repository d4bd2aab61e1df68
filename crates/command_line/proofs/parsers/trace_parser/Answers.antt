use Rattle.command_line.proofs.parsers.trace_parser.Goals as goal

pub returns : goal.returns
returns c =
    let one = c.with_schedule-trace.ensures _ c.titled.ensures in
    let two = c.with_window-trace.ensures _ one in
    let three = c.with_form-trace.ensures _ two in
    let four = c.with_program-trace.ensures _ three in
    c.with_files.ensures _ four
