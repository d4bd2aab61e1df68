use Rattle.std.proofs.Common.{sym, ◌∙◌}
use Rattle.schedule.proofs.schedule_text.WordLaws.{no_word}
use Rattle.schedule.proofs.schedule_text.words.Words.next.Goals as goal

pub returns-then-start-self-clause-none : goal.returns-then-start-self-clause-none
returns-then-start-self-clause-none c = λ _.
    let p = no_word c.self.inside.text.now c.self.inside.at c.gap.result c.self.invariant c.if-start-self.true c.gap.ensures.same in
    (sym c.self.view_is ∙ p.0, p.1)
