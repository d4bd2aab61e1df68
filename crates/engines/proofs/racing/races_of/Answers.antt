use Rattle.std.proofs.Common.{rules, ap, subst, ◌∙◌}
use Rattle.std.specs.Arc.{arc_value}
use Rattle.model.specs.Classes.{Program}
use Rattle.model.specs.Schedule.{events_of}
use Rattle.race_runs.specs.raced_runs.Raced.{IsRacedRun}
use Rattle.engines.specs.Theorem.{raced_status}
use Rattle.engines.proofs.RaceLemmas.{raced}
use Rattle.engines.proofs.racing.races_of.Goals as goal

pub returns : goal.returns
returns c = λ bytes options opened.
    let given = c.args.opened.now in
    let run = c.in_ok-run.run' in
    let is = subst (λ (t : Program). IsRacedRun t (events_of given.schedule) given.limits run) c.deref.ensures c.in_ok-run.ensures in
    raced bytes _ options (arc_value given.verified) (events_of given.schedule) given.limits given.gives_up opened run is _ _
    (search (rules, c.in_ok-extend_from_slice.ensures, c.in_ok-extend_from_slice-2.ensures, c.in_ok-report.ensures.text))
    (c.raced_status.ensures ∙ ap (λ s. raced_status s run.has_race) c.in_ok-report.ensures.status)
