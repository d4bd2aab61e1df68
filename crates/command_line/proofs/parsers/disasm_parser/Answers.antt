use Rattle.command_line.proofs.parsers.disasm_parser.Goals as goal

pub returns : goal.returns
returns c =
    let one = c.with_argument-disasm.ensures _ _ c.titled.ensures c.flag_argument.ensures.rule c.flag_argument.ensures.local in
    c.with_files.ensures _ one
