use Rattle.std.proofs.Common.{◌≡◌, ◌≤◌, Some, None, sym, ◌∙◌, arith}
use Rattle.schedule.proofs.schedule_text.EntryLaws.{word_parts}
use Rattle.schedule.proofs.schedule_text.entries.entry.Goals as goal

pub returns-in-Some-clause-only : goal.returns-in-Some-clause-only
returns-in-Some-clause-only c = λ e. λ fits. λ is.
    let p = word_parts c.args.word.now c.digits-end.result e fits c.digits-end.ensures is in
    let small : e.event.thread ≤ 65535 = omega (arith, fits.thread) in
    let found : Some c.in-Some.thread ≡ Some e.event.thread = sym c.in-Some.is ∙ c.number_within.ensures.only e.event.thread (omega arith) small p.0 in
    let same : e.event.thread ≡ c.in-Some.thread = cc in
    c.with_tail.ensures.only e fits same p.1

pub returns-in-None-clause-only : goal.returns-in-None-clause-only
returns-in-None-clause-only c = λ e. λ fits. λ is.
    let p = word_parts c.args.word.now c.digits-end.result e fits c.digits-end.ensures is in
    let small : e.event.thread ≤ 65535 = omega (arith, fits.thread) in
    let found : ◌≡◌ {A = _} None (Some e.event.thread) = sym c.in-None.is ∙ c.number_within.ensures.only e.event.thread (omega arith) small p.0 in
    absurd cc
