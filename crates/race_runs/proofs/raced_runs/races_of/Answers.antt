use Rattle.std.proofs.Common.{ap, subst, ◌∙◌}
use Rattle.model.specs.Classes.{Program}
use Rattle.model.specs.Schedule.{events_of}
use Rattle.machine.specs.machine_replay.Shown.{Tells}
use Rattle.race_places.specs.named_actions.Names.{AreApart}
use Rattle.field_names.specs.named_fields.Fields.{names_of}
use Rattle.race_runs.specs.race_lines.Lines.{AreRaceLines}
use Rattle.race_runs.specs.raced_runs.Raced.{is_any}
use Rattle.race_runs.proofs.raced_runs.Replayed.{is_raced_run}
use Rattle.race_runs.proofs.raced_runs.races_of.Goals as goal

pub returns : goal.returns
returns c =
    let trees = c.args.verified.now in
    let old = c.args.machine.now in
    let new = c.events.new.machine in
    let before = c.in_ok-finder.finder in
    let after = c.events.new.finder in
    let done = c.in_ok-done.done in
    let why = c.in_ok-done.why in
    let told = c.into_told-told.result in
    let lines = c.in_ok-lines.lines in
    let r = c.in_ok-report in
    let apart = subst (λ (t : Program). AreApart (names_of t)) c.linked-linked.ensures.same c.names_are_apart.ensures in
    let tells = subst (λ (t : Program). Tells t new done why r.report r.end) (c.set.ensures.same ∙ c.linked-linked.ensures.same) c.in_ok-report.ensures in
    let of_linked = subst (λ (t : Program). AreRaceLines t told.races.keys lines.items) c.linked-linked.ensures.same c.in_ok-lines.ensures in
    let spelled = subst (λ l. AreRaceLines trees l.races.keys lines.items) c.into_told-told.ensures of_linked in
    let any = c.is_any.ensures ∙ ap (λ l. is_any l.races.keys) c.into_told-told.ensures in
    is_raced_run trees old new before after (events_of c.args.schedule.now) (done, why) _ c.reports_of_words.ensures.holds c.no_event_is_wrong.ensures.holds c.races_are_named.ensures.holds apart
    c.requires (c.in_ok-finder.ensures.files ∙ c.linked-linked.ensures.same) c.in_ok-finder.ensures.none c.in_ok-done.ensures tells any spelled
