use Rattle.std.proofs.Common.{◌≡◌, ◌∷◌, [], false, true}
use Rattle.program_runs.specs.traced_runs.Telling.{times}
use Rattle.program_runs.specs.traced_runs.Windows.{is_told}
use Rattle.program_runs.proofs.traced_runs.Passing.{eased, line_told, none_done, none_of_event, on_err, writing_stops}
use Rattle.program_runs.proofs.traced_runs.events.event.Goals as goal

pub returns-then-not-has-clause-told : goal.returns-then-not-has-clause-told
returns-then-not-has-clause-told g c =
    let line = c.args.line in
    let untold : is_told c.args.telling.window line.number line.event.thread ≡ false = cc in
    none_of_event c.args.telling.names.now.linked.now c.args.telling.window line.event line.number c.once.result c.args.machine.now c.once.new.machine untold c.once.ensures
    (g.W.Sink.contents c.args.output.now) c.args.lines.now.text.items

pub returns-in_err-why-clause-part : goal.returns-in_err-why-clause-part
returns-in_err-why-clause-part g c =
    on_err c.from_residual.result
    (none_done c.args.telling.names.now.linked.now c.args.telling.window c.args.machine.now c.args.line.number (c.args.line.event ∷ []) (g.W.Sink.contents c.args.output.now) c.args.lines.now.text.items)

pub returns-in_err-ease-clause-part : goal.returns-in_err-ease-clause-part
returns-in_err-ease-clause-part g c =
    let trees = c.args.telling.names.now.linked.now in
    let window = c.args.telling.window in
    let line = c.args.line in
    let why = c.in_ok-why.why in
    let held = g.W.Sink.contents c.args.output.now in
    let told : is_told window line.number line.event.thread ≡ true = cc in
    let has_told = line_told trees window c.args.machine.now line.number line.event why c.told_event.new.machine held c.args.lines.now.text.items c.told_event.new.lines.text.items told c.in_ok-why.ensures.goes
    line.form c.requires c.in_ok-why.ensures.told
    in
    on_err c.from_residual-in_err-ease.result
    (writing_stops trees window c.args.machine.now line.number (line.event ∷ []) (times why) why c.told_event.new.machine held held (g.W.Sink.contents c.ease.new.output) c.args.lines.now.text.items
    c.told_event.new.lines.text.items has_told c.in_err-ease.ensures.part)

pub returns-clause-told : goal.returns-clause-told
returns-clause-told g c =
    let trees = c.args.telling.names.now.linked.now in
    let window = c.args.telling.window in
    let line = c.args.line in
    let why = c.in_ok-why.why in
    let held = g.W.Sink.contents c.args.output.now in
    let told : is_told window line.number line.event.thread ≡ true = cc in
    let has_told = line_told trees window c.args.machine.now line.number line.event why c.told_event.new.machine held c.args.lines.now.text.items c.told_event.new.lines.text.items told c.in_ok-why.ensures.goes
    line.form c.requires c.in_ok-why.ensures.told
    in
    eased trees window c.args.machine.now line.number (line.event ∷ []) (times why) why c.told_event.new.machine held held (g.W.Sink.contents c.ease.new.output) c.args.lines.now.text.items
    c.told_event.new.lines.text.items c.ease.new.self.text.items has_told c.in_ok-ease.ensures.gathered
