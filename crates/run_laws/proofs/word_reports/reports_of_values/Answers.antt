use Rattle.run_laws.proofs.word_reports.Reported.{values_reported}
use Rattle.run_laws.proofs.word_reports.reports_of_values.Goals as goal

pub returns : goal.returns
returns c = record { holds = values_reported }
