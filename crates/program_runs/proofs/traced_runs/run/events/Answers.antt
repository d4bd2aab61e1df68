use Rattle.std.proofs.Common.{[], subst}
use Rattle.model.specs.Schedule.{events_of}
use Rattle.program_runs.specs.traced_runs.Telling.{HasTold, StopsShort}
use Rattle.program_runs.proofs.traced_runs.Passing.{flushed, on_err, writing_stops}
use Rattle.program_runs.proofs.traced_runs.run.events.Goals as goal

pub returns-in_err-done-clause-part : goal.returns-in_err-done-clause-part
returns-in_err-done-clause-part g c =
    let contents = g.W.Sink.contents in
    on_err c.from_residual.result
    (subst (StopsShort c.args.telling.names.now.linked.now c.args.telling.window c.args.machine.now 0 (events_of c.args.schedule.now) (contents c.args.output.now) (contents c.gathered.new.output))
    c.new-lines.ensures c.in_err-done.ensures.part)

pub returns-in_err-flush-clause-part : goal.returns-in_err-flush-clause-part
returns-in_err-flush-clause-part g c =
    let trees = c.args.telling.names.now.linked.now in
    let window = c.args.telling.window in
    let contents = g.W.Sink.contents in
    let r = c.in_ok-done.done in
    on_err c.from_residual-in_err-flush.result
    (subst (StopsShort trees window c.args.machine.now 0 (events_of c.args.schedule.now) (contents c.args.output.now) (contents c.flush.new.output)) c.new-lines.ensures
    (writing_stops trees window c.args.machine.now 0 (events_of c.args.schedule.now) r.0 r.1 c.gathered.new.machine (contents c.args.output.now) (contents c.gathered.new.output) (contents c.flush.new.output)
    c.new-lines.result.text.items c.gathered.new.lines.text.items c.in_ok-done.ensures.told c.in_err-flush.ensures.part))

pub returns-clause-told : goal.returns-clause-told
returns-clause-told g c =
    let trees = c.args.telling.names.now.linked.now in
    let window = c.args.telling.window in
    let contents = g.W.Sink.contents in
    let r = c.in_ok-done.done in
    let all = flushed trees window c.args.machine.now 0 (events_of c.args.schedule.now) r.0 r.1 c.gathered.new.machine (contents c.args.output.now) (contents c.gathered.new.output) (contents c.flush.new.output)
    c.new-lines.result.text.items c.gathered.new.lines.text.items c.in_ok-done.ensures.told c.in_ok-flush.ensures.written
    in
    subst (λ before. HasTold trees window c.args.machine.now 0 (events_of c.args.schedule.now) r.0 r.1 c.gathered.new.machine (contents c.args.output.now) (contents c.flush.new.output) before []) c.new-lines.ensures
    all
