use Rattle.schedule.proofs.schedule_text.WordLaws.{gap_ends}
use Rattle.schedule.proofs.schedule_text.words.gap.Goals as goal

pub returns-clause-same : goal.returns-clause-same
returns-clause-same c = gap_ends c.args.bytes.now c.gap.comment c.gap.at c.gap-test.false c.gap.auto.at-end c.gap.invariant
