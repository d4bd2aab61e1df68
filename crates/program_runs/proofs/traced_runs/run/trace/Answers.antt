use Rattle.std.proofs.Common.{List, ℕ, refl, subst}
use Rattle.std.specs.Prelude.{IfOk, OnErr}
use Rattle.std.specs.Io.KnownBytes.{Appends}
use Rattle.model.specs.declared.limits.Limits.{Limits}
use Rattle.model.specs.Schedule.{events_of}
use Rattle.program_runs.specs.traced_runs.Traces.{IsTrace, WritesFront}
use Rattle.program_runs.proofs.traced_runs.Passing.{on_err}
use Rattle.program_runs.proofs.traced_runs.Traced.{unwritten}
use Rattle.program_runs.proofs.traced_runs.run.trace.Goals as goal

pub returns-in_err-machine-clause-part : goal.returns-in_err-machine-clause-part
returns-in_err-machine-clause-part g c =
    on_err c.from_residual.result (unwritten c.args.verified.now c.args.window c.args.limits (events_of c.args.schedule.now) (g.W.Sink.contents c.args.output.now))

pub trace_opened-requires : goal.trace_opened-requires
trace_opened-requires g c = let opened = c.in_ok-machine.ensures in record { files = opened.files; limits_are = refl; done = opened.done }

pub returns-clause-traced : goal.returns-clause-traced
returns-clause-traced g c =
    let contents = g.W.Sink.contents in
    subst
    (λ (limits : Limits). IfOk c.trace_opened.result (λ r. (text : List ℕ)
    × IsTrace c.args.verified.now (events_of c.args.schedule.now) limits c.args.window r.0 r.1 text
    × Appends (contents c.args.output.now) (contents c.trace_opened.new.output) text))
    c.in_ok-machine.ensures.limits_are c.trace_opened.ensures.traced

pub returns-clause-part : goal.returns-clause-part
returns-clause-part g c =
    let contents = g.W.Sink.contents in
    subst
    (λ (limits : Limits). OnErr c.trace_opened.result
    (WritesFront c.args.verified.now (events_of c.args.schedule.now) limits c.args.window (contents c.args.output.now) (contents c.trace_opened.new.output)))
    c.in_ok-machine.ensures.limits_are c.trace_opened.ensures.part
