use Rattle.std.proofs.Common.{replicate}
use Rattle.program_runs.specs.traced_runs.Telling.{tried}
use Rattle.program_runs.proofs.traced_runs.Passing.{eased, never_done, none_done, on_err, short_of_most, writing_stops}
use Rattle.program_runs.proofs.traced_runs.events.some_events.Goals as goal

pub returns-in_err-done-clause-part : goal.returns-in_err-done-clause-part
returns-in_err-done-clause-part g c =
    on_err c.from_residual.result
    (none_done c.args.telling.names.now.linked.now c.args.telling.window c.args.machine.now c.args.line.number (replicate c.args.most c.args.line.event) (g.W.Sink.contents c.args.output.now)
    c.args.lines.now.text.items)

pub returns-in_err-ease-clause-part : goal.returns-in_err-ease-clause-part
returns-in_err-ease-clause-part g c =
    let trees = c.args.telling.names.now.linked.now in
    let window = c.args.telling.window in
    let m = c.args.machine.now in
    let line = c.args.line in
    let r = c.in_ok-done.done in
    let held = g.W.Sink.contents c.args.output.now in
    let new = g.W.Sink.contents c.ease.new.output in
    let before = c.args.lines.now.text.items in
    on_err c.from_residual-in_err-ease.result
    (short_of_most trees window m line.number line.event (tried r.0 r.1) c.args.most c.in_ok-done.ensures.within held new before
    (writing_stops trees window m line.number (replicate (tried r.0 r.1) line.event) r.0 r.1 c.run_of_locals.new.machine held held new before c.run_of_locals.new.lines.text.items
    (c.in_ok-done.ensures.told held) c.in_err-ease.ensures.part))

pub returns-then-is_next_local-clause-told : goal.returns-then-is_next_local-clause-told
returns-then-is_next_local-clause-told g c =
    let trees = c.args.telling.names.now.linked.now in
    let window = c.args.telling.window in
    let m = c.args.machine.now in
    let line = c.args.line in
    let r = c.in_ok-done.done in
    let held = g.W.Sink.contents c.args.output.now in
    let new = g.W.Sink.contents c.ease.new.output in
    eased trees window m line.number (replicate (tried r.0 r.1) line.event) r.0 r.1 c.run_of_locals.new.machine held held new c.args.lines.now.text.items c.run_of_locals.new.lines.text.items
    c.ease.new.self.text.items (c.in_ok-done.ensures.told held) c.in_ok-ease.ensures.gathered

pub returns-in_err-why-clause-part : goal.returns-in_err-why-clause-part
returns-in_err-why-clause-part g c =
    on_err c.from_residual-in_err-why.result
    (short_of_most c.args.telling.names.now.linked.now c.args.telling.window c.args.machine.now c.args.line.number c.args.line.event 1 c.args.most c.requires.some (g.W.Sink.contents c.args.output.now)
    (g.W.Sink.contents c.event.new.output) c.args.lines.now.text.items c.in_err-why.ensures.part)

pub returns-in_default-clause-told : goal.returns-in_default-clause-told
returns-in_default-clause-told g c =
    never_done c.args.telling.names.now.linked.now c.args.telling.window c.args.machine.now c.args.line.number c.args.line.event c.in_ok-why.why c.in_default.not-Most c.event.new.machine
    (g.W.Sink.contents c.args.output.now) (g.W.Sink.contents c.event.new.output) c.args.lines.now.text.items c.event.new.lines.text.items c.in_ok-why.ensures.told
