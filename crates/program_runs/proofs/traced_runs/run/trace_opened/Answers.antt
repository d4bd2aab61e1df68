use Rattle.std.proofs.Common.{[], subst, ◌∙◌}
use Rattle.model.specs.Classes.{Program}
use Rattle.model.specs.Schedule.{events_of}
use Rattle.machine.specs.machine_replay.Shown.{Tells}
use Rattle.listings.proofs.disasm.Writing.{none_written}
use Rattle.program_runs.specs.traced_runs.Telling.{HasTold, StopsShort}
use Rattle.program_runs.proofs.traced_runs.Passing.{on_err, writing_stops}
use Rattle.program_runs.proofs.traced_runs.Traced.{front_written, is_trace, unwritten}
use Rattle.program_runs.proofs.traced_runs.run.trace_opened.Goals as goal

pub returns-in_err-program-clause-part : goal.returns-in_err-program-clause-part
returns-in_err-program-clause-part g c =
    on_err c.from_residual.result (unwritten c.args.verified.now c.args.window c.args.machine.now.limits (events_of c.args.schedule.now) (g.W.Sink.contents c.args.output.now))

pub returns-in_err-names-clause-part : goal.returns-in_err-names-clause-part
returns-in_err-names-clause-part g c =
    on_err c.from_residual-in_err-names.result (unwritten c.args.verified.now c.args.window c.args.machine.now.limits (events_of c.args.schedule.now) (g.W.Sink.contents c.args.output.now))

pub returns-in_err-done-clause-part : goal.returns-in_err-done-clause-part
returns-in_err-done-clause-part g c =
    let trees = c.args.verified.now in
    let window = c.args.window in
    let events = events_of c.args.schedule.now in
    let opened = c.args.machine.now in
    let old = g.W.Sink.contents c.args.output.now in
    let new = g.W.Sink.contents c.events.new.output in
    let stops = subst (λ (t : Program). StopsShort t window opened 0 events old new []) (c.in_ok-names.ensures ∙ c.linked.ensures.same) c.in_err-done.ensures.part in
    on_err c.from_residual-in_err-done.result (front_written trees window c.args.machine.now.limits events opened c.requires old new stops)

pub returns-in_err-report_after-clause-part : goal.returns-in_err-report_after-clause-part
returns-in_err-report_after-clause-part g c =
    let trees = c.args.verified.now in
    let window = c.args.window in
    let events = events_of c.args.schedule.now in
    let opened = c.args.machine.now in
    let after = c.events.new.machine in
    let done = c.in_ok-done.done in
    let why = c.in_ok-done.why in
    let old = g.W.Sink.contents c.args.output.now in
    let new = g.W.Sink.contents c.events.new.output in
    let told = subst (λ (t : Program). HasTold t window opened 0 events done why after old new [] []) (c.in_ok-names.ensures ∙ c.linked.ensures.same) c.in_ok-done.ensures.told in
    on_err c.from_residual-in_err-report_after.result
    (front_written trees window c.args.machine.now.limits events opened c.requires old new (writing_stops trees window opened 0 events done why after old new new [] [] told (none_written new [])))

pub returns-clause-traced : goal.returns-clause-traced
returns-clause-traced g c =
    let trees = c.args.verified.now in
    let window = c.args.window in
    let events = events_of c.args.schedule.now in
    let opened = c.args.machine.now in
    let after = c.events.new.machine in
    let done = c.in_ok-done.done in
    let why = c.in_ok-done.why in
    let old = g.W.Sink.contents c.args.output.now in
    let new = g.W.Sink.contents c.events.new.output in
    let r = c.in_ok-report_after.field-0 in
    let told = subst (λ (t : Program). HasTold t window opened 0 events done why after old new [] []) (c.in_ok-names.ensures ∙ c.linked.ensures.same) c.in_ok-done.ensures.told in
    let reported = subst (λ (t : Program). Tells t after done why r.0 r.1) (c.set.ensures.same ∙ c.linked-2.ensures.same) c.in_ok-report_after.ensures in
    is_trace trees window c.args.machine.now.limits events opened c.requires after done why old new told c.reports_of_words.ensures.holds c.no_event_is_wrong.ensures.holds r.0 r.1 reported
