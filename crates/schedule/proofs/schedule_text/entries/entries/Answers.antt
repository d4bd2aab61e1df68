use Rattle.std.proofs.Common.{sym, ◌∙◌, arith}
use Rattle.schedule.proofs.schedule_text.EntryLaws.{all_done, no_entry, one_more}
use Rattle.schedule.proofs.schedule_text.entries.entries.Goals as goal

pub returns-in_default-entry-clause-only : goal.returns-in_default-entry-clause-only
returns-in_default-entry-clause-only c = λ es. λ are. λ is. absurd (no_entry c.args.words.now c.entries.entries.items c.entries.words c.next.new.self c.in-Some.word.now c.entries.invariant c.in-Some.ensures.some
    (λ f. λ fits. λ spelled. c.in_default-entry.not-Some f (c.entry.ensures.only f fits spelled)) es are is)

pub entries-preserved : goal.entries-preserved
entries-preserved c = one_more c.args.words.now c.entries.entries.items c.entries.words c.next.new.self c.in-Some.word.now c.in-Some-entry.entry c.entries.invariant c.in-Some.ensures.some
    c.in-Some-entry.ensures.found.0 c.in-Some-entry.ensures.found.1 (λ e. c.if-len-eq-MOST.false (c.len.ensures ∙ omega (arith, e, c.entries.entries.ok.0))) (λ f. λ fits. λ spelled. sym c.in-Some-entry.is ∙ c.entry.ensures.only f fits spelled) c.push.new.self.items c.in_ok-push.ensures.items

pub returns-clause-only : goal.returns-clause-only
returns-clause-only c = λ es. λ are. λ is. all_done c.args.words.now c.entries.entries.items c.entries.words c.entries.invariant (c.next.ensures.none c.in_default.is).0 es are is
