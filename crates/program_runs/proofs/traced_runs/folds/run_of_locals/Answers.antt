use Rattle.std.proofs.Common.{◌≡◌, ◌+◌, ◌<◌, ◌∷◌, [], ◌++◌, ℕ, List, length, take, ap, arith, replicate, subst, ◌∙◌}
use Rattle.model.specs.Names.{Member}
use Rattle.machine.specs.declared.machine.Stopped.TheVariants as stopped
use Rattle.machine.specs.schedule_runs.Done.{GoesThrough}
use Rattle.traces.specs.Lines.{fold_words}
use Rattle.traces.specs.declared.form.Form.{Form}
use Rattle.program_runs.specs.traced_runs.Telling.{AddsOne, AfterRun, HasTold, times, tried}
use Rattle.program_runs.proofs.traced_runs.Passing.{line_told, never_done, once_tried}
use Rattle.program_runs.proofs.traced_runs.Runs.{alone, line_taken_back, together}
use Rattle.program_runs.proofs.traced_runs.folds.run_of_locals.Goals as goal

pub returns-in_default-clause-told : goal.returns-in_default-clause-told
returns-in_default-clause-told c = λ held.
    let trees = c.args.telling.names.now.linked.now in
    let window = c.args.telling.window in
    let m = c.args.machine.now in
    let line = c.args.line in
    let why = c.in_ok-why.why in
    let before = c.args.lines.now.text.items in
    let now = c.told_event.new.lines.text.items in
    never_done trees window m line.number line.event why c.in_default.not-Most c.told_event.new.machine held held before now
    (line_told trees window m line.number line.event why c.told_event.new.machine held before now c.requires.told c.in_ok-why.ensures.goes line.form c.requires.form c.in_ok-why.ensures.told)

pub returns-in_default-frame-clause-told : goal.returns-in_default-frame-clause-told
returns-in_default-frame-clause-told c = λ held.
    let trees = c.args.telling.names.now.linked.now in
    let window = c.args.telling.window in
    let m = c.args.machine.now in
    let line = c.args.line in
    let why = c.in_ok-why.why in
    let before = c.args.lines.now.text.items in
    let now = c.told_event.new.lines.text.items in
    let told = line_told trees window m line.number line.event why c.told_event.new.machine held before now c.requires.told c.in_ok-why.ensures.goes line.form c.requires.form c.in_ok-why.ensures.told in
    subst (λ w. HasTold trees window m line.number (replicate (tried (times w) w) line.event) (times w) w c.told_event.new.machine held held before now) c.in-Most.is
    (once_tried trees window m line.number line.event why c.told_event.new.machine held held before now told)

pub returns-then-run-eq0-clause-told : goal.returns-then-run-eq0-clause-told
returns-then-run-eq0-clause-told c = λ held.
    let trees = c.args.telling.names.now.linked.now in
    let window = c.args.telling.window in
    let m = c.args.machine.now in
    let mid = c.told_event.new.machine in
    let after = c.run_on.new.machine in
    let line = c.args.line in
    let before = c.args.lines.now.text.items in
    let now = c.told_event.new.lines.text.items in
    let once = subst (λ w. GoesThrough (times w, w) (line.event ∷ []) m mid) c.in-Most.is c.in_ok-why.ensures.goes in
    let adds = subst (λ w. AfterRun trees m line.number (λ done. AddsOne w line.form trees m.limits.frames before now done line.event)) c.in-Most.is c.in_ok-why.ensures.told in
    let told = line_told trees window m line.number line.event stopped.Most mid held before now c.requires.told once line.form c.requires.form adds in
    let k = c.in_ok-run.run'.more in
    let why = c.in_ok-run.why in
    let none : k ≡ 0 = c.if-run-eq0.true in
    subst (λ n. HasTold trees window m line.number (replicate (tried (n + 1) why) line.event) (n + 1) why after held held before now) none
    (alone trees window m mid after line.number line.event once k why c.in_ok-run.ensures.goes none held before now told)

pub returns-clause-told : goal.returns-clause-told
returns-clause-told c = λ held.
    let trees = c.args.telling.names.now.linked.now in
    let window = c.args.telling.window in
    let m = c.args.machine.now in
    let mid = c.told_event.new.machine in
    let after = c.run_on.new.machine in
    let line = c.args.line in
    let before = c.args.lines.now.text.items in
    let between = c.told_event.new.lines.text.items in
    let now = c.push_fold.new.text.items in
    let once = subst (λ w. GoesThrough (times w, w) (line.event ∷ []) m mid) c.in-Most.is c.in_ok-why.ensures.goes in
    let adds_by = subst (λ (form : Form). AfterRun trees m line.number (λ done. AddsOne c.in_ok-why.why form trees m.limits.frames before between done line.event)) c.requires.form c.in_ok-why.ensures.told in
    let adds = subst (λ w. AfterRun trees m line.number (λ done. AddsOne w window.form trees m.limits.frames before between done line.event)) c.in-Most.is adds_by in
    let k = c.in_ok-run.run'.more in
    let to = c.in_ok-run.run'.to in
    let from = c.in-Some.from in
    let why = c.in_ok-run.why in
    let some : 0 < k = omega (arith, c.if-run-eq0.false) in
    let text = c.args.lines.now.text in
    let long : c.len-start.result ≡ length text.items = omega (arith, c.len-start.ensures, text.ok.0) in
    let cut = c.truncate.ensures.items ∙ ap (λ n. take n between) long in
    let words = λ (form : Form) (own : Member). fold_words form line.number (k + 1) line.event.thread own from.offset to in
    let line_is = line_taken_back trees window m line.number line.event before between now (words window.form) from.method adds
    (λ own numbered.
    c.in_ok-push_fold.ensures own numbered
    ∙ ap (λ (l : List ℕ). l ++ words line.form own) cut
    ∙ ap (λ (form : Form). take (length before) between ++ words form own) c.requires.form)
    in
    together trees window m mid after line.number line.event once k why c.in_ok-run.ensures.goes c.requires.summary c.requires.told c.requires.local from c.told_event.new.before.frame c.told_event.new.before.class
    c.in-Some.is c.in_ok-why.ensures.seen to (c.in_ok-run.ensures.runs trees) some held before now line_is
