use Rattle.schedule.proofs.schedule_text.CommandLaws.{no_schedule, one_more}
use Rattle.schedule.proofs.schedule_text.command_word.is_schedule_word.Goals as goal

pub returns-in_default-entry : goal.returns-in_default-entry
returns-in_default-entry c = (
  (λ t. absurd cc),
  (λ is. absurd (no_schedule c.args.word.now c.words.has_some c.words.words c.next.new.self c.in-Some.word.now c.words.invariant c.in-Some.ensures.some
      (λ f fits spelled. c.in_default-entry.not-Some f (c.entry.ensures.only f fits spelled)) is)),
)

pub words-preserved : goal.words-preserved
words-preserved c = one_more _ c.words.has_some c.words.words c.next.new.self c.in-Some.word.now c.in-Some-entry._entry c.words.invariant c.in-Some.ensures.some
    c.in-Some-entry.ensures.found.0 c.in-Some-entry.ensures.found.1
