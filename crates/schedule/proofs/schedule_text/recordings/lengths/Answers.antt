use Rattle.std.proofs.Common.{◌≡◌, ◌∙◌, arith, false, rules, sym, tests, true}
use Rattle.schedule.proofs.schedule_text.LengthLaws.{ended, no_length, one_more}
use Rattle.schedule.proofs.schedule_text.LimitLaws.{same_pair}
use Rattle.schedule.proofs.schedule_text.recordings.lengths.Goals as goal

pub returns-in_default-clause-only : goal.returns-in_default-clause-only
returns-in_default-clause-only c = λ ns rest fit few end spelled.
    let on : c.end_lengths.result ≡ false = search (rules, tests) in
    absurd (no_length c.args.words.now c.lengths.lengths.items c.lengths.words c.lengths.invariant
    (λ ends. let is : c.end_lengths.result ≡ true = c.end_lengths.ensures.is.1 ends in let bad : false ≡ true = sym on ∙ is in cc)
    (λ m more small is. c.in_default.not-Some m (c.length.ensures.only m more small is).0)
    ns rest fit end spelled)

pub lengths-preserved : goal.lengths-preserved
lengths-preserved c = one_more c.args.words.now c.lengths.lengths.items c.lengths.words c.length.new.words c.in-Some.length c.lengths.invariant (omega arith)
    c.in-Some.ensures.found (λ e. c.if-len-eq-MOST.false (c.len.ensures ∙ omega (arith, e, c.lengths.lengths.ok.0))) c.push.new.self.items c.in_ok-push.ensures.items

pub returns-clause-only : goal.returns-clause-only
returns-clause-only c = λ ns rest fit few end spelled.
    let is : c.end_lengths.result ≡ true = search (rules, tests) in
    let p = ended c.args.words.now c.lengths.lengths.items c.lengths.words c.lengths.invariant (c.end_lengths.ensures.is.0 is) ns rest fit end spelled in
    same_pair _ _ _ _ p.0 p.1
