use Rattle.std.proofs.Common.{◌≡◌, ◌∙◌, None, Some, ap, refl, sym, subst}
use Rattle.std.specs.List.{position}
use Rattle.model.specs.Schedule.{events_of}
use Rattle.sweeps.specs.Shown.{is_same_shown, shown_in}
use Rattle.sweeps.proofs.Counting.{added, counted}
use Rattle.sweeps.proofs.same_runs.count.Goals as goal

pub returns-in-Some-clause-counted : goal.returns-in-Some-clause-counted
returns-in-Some-clause-counted c =
    let place = sym c.in-Some.is ∙ (c.place_of.ensures ∙ ap (position (λ s. is_same_shown (shown_in c.args.shown) (shown_in s.shown))) c.deref.ensures.value) in
    counted (shown_in c.args.shown) (events_of c.args.schedule) c.args.seed c.args.listed.now.items c.count_at.new.listed.items c.in-Some.at place c.count_at.ensures

pub returns-in_ok-push-in-None-clause-counted : goal.returns-in_ok-push-in-None-clause-counted
returns-in_ok-push-in-None-clause-counted c =
    let place = sym c.in-None.is ∙ (c.place_of.ensures ∙ ap (position (λ s. is_same_shown (shown_in c.args.shown) (shown_in s.shown))) c.deref.ensures.value) in
    added (shown_in c.args.shown) (events_of c.args.schedule) c.args.seed c.args.listed.now.items c.push.new.self.items _ place c.in_ok-push-in-None.ensures.items refl
