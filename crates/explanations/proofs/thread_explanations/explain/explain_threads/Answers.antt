use Rattle.std.proofs.Common.{ap, subst, sym, ◌∙◌}
use Rattle.std.specs.Arc.{arc_value}
use Rattle.model.specs.Classes.{Program}
use Rattle.model.specs.Schedule.{events_of}
use Rattle.machine.specs.Machines.{MachineOf}
use Rattle.machine.specs.machine_replay.Shown.{Tells}
use Rattle.machine.proofs.machine_replay.Opened.{is_opened, of_accepted}
use Rattle.explanations.proofs.thread_explanations.Runs.{explained_if}
use Rattle.explanations.proofs.thread_explanations.explain.explain_threads.Goals as goal

pub open_machine-requires : goal.open_machine-requires
open_machine-requires c = of_accepted c.args.linked.now (arc_value c.args.program.now) c.requires

pub details_of-requires : goal.details_of-requires
details_of-requires c = of_accepted c.args.linked.now (arc_value c.args.program.now) c.requires

pub returns : goal.returns
returns c =
    let trees = c.args.linked.now in
    let p = arc_value c.args.program.now in
    let old = c.in_ok-machine.machine in
    let new = c.run_schedule-done.new.machine in
    let gone = c.run_schedule-done.result in
    let report = c.in_ok-report.report in
    let end = c.in_ok-report.field-0-1 in
    let opened = is_opened c.runs_are_opened.ensures.holds trees p c.args.limits old c.requires c.in_ok-machine.ensures in
    let goes = c.run_schedule-done.ensures in
    let tells = subst (λ (t : Program). Tells t new gone.0 gone.1 report end) c.set.ensures.same c.in_ok-report.ensures in
    let same = ap (λ (x : MachineOf). x.program) c.in_ok-machine.ensures.0 in
    let runs = ap (λ (x : MachineOf). x.program) goes.0 in
    explained_if c.reports_of_words.ensures.holds c.no_event_is_wrong.ensures.holds trees c.args.limits old new (events_of c.args.schedule.now) gone report end opened goes tells
    p c.into_shared-shared.result c.deref.result.now c.deref-2.result.now (sym (runs ∙ same)) c.into_shared-shared.ensures c.deref.ensures.value c.deref-2.ensures.value c.in_ok-details.details c.in_ok-details.ensures
    c.text_of.result c.text_of.ensures
