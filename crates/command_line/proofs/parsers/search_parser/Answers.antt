use Rattle.command_line.proofs.parsers.search_parser.Goals as goal

pub returns : goal.returns
returns c =
    let one = c.with_search_options-search.ensures _ c.titled.ensures in
    let two = c.with_program-search.ensures _ one in
    c.with_files.ensures _ two
