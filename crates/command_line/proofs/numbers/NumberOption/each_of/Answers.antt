use Rattle.std.proofs.Common.{List, [], Bor, ℕ}
use Rattle.command_line.proofs.CommandLineLemmas.{no_numeral, one_more_numeral, refuses}
use Rattle.command_line.proofs.numbers.NumberOption.each_of.Goals as goal

abbrev no_text : Bor (List ℕ)
no_text = record { ref_ptr = (0, 0); now = [] }

pub loop-text-preserved : goal.loop-text-preserved
loop-text-preserved c =
    rw c.in_ok-push-in-Some.ensures.items
    (one_more_numeral c.args.self.least c.args.self.most c.args.texts.now c.loop-text.text-index no_text c.loop-text-test.true c.loop-text.numbers.items c.loop-text.invariant c.in-Some.number
    c.in-Some.ensures.0 c.in-Some.ensures.1)

pub returns-in-None-clause-none : goal.returns-in-None-clause-none
returns-in-None-clause-none c =
    refuses c.part_refusal.result _ c.part_refusal.ensures
    (no_numeral c.args.self.least c.args.self.most c.args.texts.now c.loop-text.text-index no_text c.loop-text-test.true c.in-None.ensures)
