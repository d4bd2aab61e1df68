use Rattle.std.proofs.Common.{List, ℕ, inl, map, subst, sym, vec_items, ◌∙◌}
use Rattle.std.proofs.lemmas.Result.{err_from_is_err_and}
use Rattle.std.specs.Arc.{arc_value}
use Rattle.std.specs.Io.KnownBytes.{Appends}
use Rattle.model.specs.Classes.{Program}
use Rattle.model.specs.Devices.{AppendsFront}
use Rattle.model.specs.Schedule.{events_of}
use Rattle.program_runs.specs.traced_runs.Traces.{IsTrace, WritesFront}
use Rattle.engines.specs.Traces.{IsTraced}
use Rattle.engines.specs.declared.status.Status.{Status}
use Rattle.engines.proofs.TraceLemmas.{all_written, lines_alone, report_fails}
use Rattle.engines.proofs.tracing.trace_of.Goals as goal

pub returns-in_err-report-clause-part : goal.returns-in_err-report-clause-part
returns-in_err-report-clause-part g c =
    let p = err_from_is_err_and c.from_residual.result c.from_residual.ensures.1 in
    let given = c.args.opened.now in
    let contents = g.W.Sink.contents in
    let lines = subst (λ (t : Program). WritesFront t (events_of given.schedule) given.limits c.args.window (contents c.args.output.now) (contents c.trace.new.output)) c.deref.ensures
    c.in_err-report.ensures.part in
    rw p.1
    (λ bytes options opened.
    inl (record { trees = arc_value given.verified; events = events_of given.schedule; limits = given.limits; gives_up = given.gives_up; opened = opened; lines = lines }))

pub returns-in_err-text-clause-part : goal.returns-in_err-text-clause-part
returns-in_err-text-clause-part g c =
    let p = err_from_is_err_and c.from_residual-in_err-text.result c.from_residual-in_err-text.ensures.1 in
    let given = c.args.opened.now in
    let contents = g.W.Sink.contents in
    let traced = subst (λ (t : Program). (lines : List ℕ) × IsTrace t (events_of given.schedule) given.limits c.args.window c.in_ok-report.report c.in_ok-report.end lines
    × Appends (contents c.args.output.now) (contents c.trace.new.output) lines) c.deref.ensures c.in_ok-report.ensures.traced in
    rw p.1
    (λ bytes options opened.
    lines_alone bytes (map vec_items given.files.items) options c.args.window (arc_value given.verified) (events_of given.schedule) given.limits given.gives_up c.in_ok-report.report
    c.in_ok-report.end (contents c.args.output.now) (contents c.trace.new.output) traced opened)

pub returns-in_err-write_all-clause-part : goal.returns-in_err-write_all-clause-part
returns-in_err-write_all-clause-part g c =
    let p = err_from_is_err_and c.from_residual-in_err-write_all.result c.from_residual-in_err-write_all.ensures.1 in
    let given = c.args.opened.now in
    let contents = g.W.Sink.contents in
    let traced = subst (λ (t : Program). (lines : List ℕ) × IsTrace t (events_of given.schedule) given.limits c.args.window c.in_ok-report.report c.in_ok-report.end lines
    × Appends (contents c.args.output.now) (contents c.trace.new.output) lines) c.deref.ensures c.in_ok-report.ensures.traced in
    let front = subst (AppendsFront (contents c.trace.new.output) (contents c.write_all.new.self)) (c.as_slice.ensures.value ∙ c.in_ok-text.ensures.text) c.in_err-write_all.ensures.part in
    rw p.1
    (λ bytes options opened.
    report_fails bytes (map vec_items given.files.items) options c.args.window (arc_value given.verified) (events_of given.schedule) given.limits given.gives_up c.in_ok-report.report
    c.in_ok-report.end (contents c.args.output.now) (contents c.trace.new.output) traced opened (contents c.write_all.new.self) front)

pub returns-clause-traced : goal.returns-clause-traced
returns-clause-traced g c =
    let given = c.args.opened.now in
    let contents = g.W.Sink.contents in
    let traced = subst (λ (t : Program). (lines : List ℕ) × IsTrace t (events_of given.schedule) given.limits c.args.window c.in_ok-report.report c.in_ok-report.end lines
    × Appends (contents c.args.output.now) (contents c.trace.new.output) lines) c.deref.ensures c.in_ok-report.ensures.traced in
    let written = subst (Appends (contents c.trace.new.output) (contents c.write_all.new.self)) (c.as_slice.ensures.value ∙ c.in_ok-text.ensures.text) c.in_ok-write_all.ensures.written in
    λ bytes options opened.
    subst
    (λ (status : Status). (text : List ℕ)
    × IsTraced bytes (map vec_items given.files.items) options c.args.window text status
    × Appends (contents c.args.output.now) (contents c.write_all.new.self) text)
    (sym c.in_ok-text.ensures.status)
    (all_written bytes (map vec_items given.files.items) options c.args.window (arc_value given.verified) (events_of given.schedule) given.limits given.gives_up c.in_ok-report.report
    c.in_ok-report.end (contents c.args.output.now) (contents c.trace.new.output) traced opened (contents c.write_all.new.self) written)
