use Rattle.schedule.proofs.schedule_text.WordLaws.{front_is_all}
use Rattle.schedule.proofs.schedule_text.words.front.Goals as goal

pub returns-clause-behind : goal.returns-clause-behind
returns-clause-behind c = front_is_all c.args.bytes.now c.front.comment c.front.at c.front-test.false c.front.auto.at-end c.front.invariant
