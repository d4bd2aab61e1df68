use Rattle.run_laws.proofs.laws.LinkedOf.{linked_of}
use Rattle.run_laws.proofs.word_runs.Carried.{carried}
use Rattle.run_laws.proofs.word_reports.Reported.{reported}
use Rattle.run_laws.proofs.word_reports.reports_of_words.Goals as goal

pub returns : goal.returns
returns c = record {
  holds = λ files trees linkable frames s of h.
      let rooted = (linked_of files trees linkable.spelled linkable.no_refusal).rooted in
      reported trees rooted (carried trees rooted) frames s of h;
}
