use Rattle.report_laws.proofs.printed_parts.Forging.{apart}
use Rattle.report_laws.proofs.printed_parts.printed_texts_forge_no_lines.Goals as goal

pub returns : goal.returns
returns c = record { holds = apart }
