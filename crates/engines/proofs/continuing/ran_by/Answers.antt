use Rattle.std.proofs.Common.{◌∙◌, ap, inl, inr, length, map, subst, sym, vec_items}
use Rattle.std.specs.Prelude.{◌&&◌, nat_le}
use Rattle.std.specs.Arc.{arc_value}
use Rattle.std.specs.Option.{option_map}
use Rattle.std.proofs.lemmas.Result.{IfOk-weaker}
use Rattle.model.specs.Schedule.{events_of}
use Rattle.engines.specs.Continuations.{IsContinued, whole_budget}
use Rattle.engines.specs.Opening.{IsOpened}
use Rattle.engines.proofs.PlaceLemmas.{gives_up_few, gives_up_past}
use Rattle.engines.proofs.continuing.ran_by.Goals as goal

pub returns-then-gives_up_within-clause-run : goal.returns-then-gives_up_within-clause-run
returns-then-gives_up_within-clause-run g c =
    let given = c.args.opened in
    let files = map vec_items given.files.items in
    let events = events_of given.schedule in
    let is = sym (c.gives_up_within.ensures ∙ ap (λ n. given.gives_up && nat_le (length events) n) c.budget.ensures) ∙ c.if-gives_up_within.true in
    let few = gives_up_few given.gives_up (length events) (whole_budget c.args.then_run.now) is in
    IfOk-weaker c.ran_up_to.result _ _
    (λ ran run bytes options same opened.
    inr (run bytes options same (subst (λ up. IsOpened bytes files options (arc_value given.verified) events given.limits up) few.0 opened) few.1)) c.ran_up_to.ensures.run

pub returns-clause-run : goal.returns-clause-run
returns-clause-run g c =
    let given = c.args.opened in
    let events = events_of given.schedule in
    let trees = arc_value given.verified in
    let is = sym (c.gives_up_within.ensures ∙ ap (λ n. given.gives_up && nat_le (length events) n) c.budget.ensures) ∙ c.if-gives_up_within.false in
    let past = gives_up_past given.gives_up (length events) (whole_budget c.args.then_run.now) is in
    let value = c.as_slice.ensures.value in
    IfOk-weaker c.ran_on.result _ _
    (λ ran run bytes options same opened.
    let over = subst (λ all. IsOpened bytes (map vec_items all) options trees events given.limits given.gives_up) (sym value) opened in
    inl (subst (λ all. IsContinued bytes (map vec_items all) options c.args.then_run.now ran.text.items (option_map vec_items ran.file) ran.status) value
    (run bytes options given.gives_up same over past))) c.ran_on.ensures.run
