use Rattle.run_laws.proofs.printed_texts.Lines.{printed_as_lines}
use Rattle.run_laws.proofs.printed_texts.ints_print_lines.Goals as goal

pub returns : goal.returns
returns c = record { holds = printed_as_lines }
