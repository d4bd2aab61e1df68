use Rattle.std.proofs.Common.{◌∷◌, ap, ◌∙◌, sym, decimal}
use Rattle.schedule.proofs.schedule_text.EntryLaws.{same_cons}
use Rattle.schedule.proofs.schedule_text.LimitLaws.{is_named, not_named}
use Rattle.schedule.proofs.schedule_text.recordings.limit.Goals as goal

pub returns-in-Some-number_within-clause-found : goal.returns-in-Some-number_within-clause-found
returns-in-Some-number_within-clause-found c =
    let p = c.in-Some-strip_prefix.ensures.cases in
    c.in-Some.ensures.some ∙ ap (λ w. w ∷ c.next.new.self) (is_named c.in-Some.word.now c.args.name.now c.in-Some-strip_prefix.digits.now c.in-Some-number_within.number p.0 p.1 c.in-Some-number_within.ensures.found.0)

pub returns-in-None-strip_prefix-clause-only : goal.returns-in-None-strip_prefix-clause-only
returns-in-None-strip_prefix-clause-only c = λ n. λ rest. λ small. λ is.
    let p = same_cons c.in-Some.word.now _ c.next.new.self rest (sym c.in-Some.ensures.some ∙ is) in
    absurd (not_named c.in-Some.word.now c.args.name.now (decimal n) c.in-None-strip_prefix.ensures.cases p.0)
