use Rattle.std.proofs.Common.{◌≡◌, ◌+◌, ◌-◌, ◌≤◌, replicate, ap, arith, refl, subst, ◌∙◌}
use Rattle.machine.specs.declared.machine.Stopped.TheVariants as stopped
use Rattle.machine.proofs.schedule_runs.Repeated.{entry_gone}
use Rattle.program_runs.specs.traced_runs.Telling.{HasTold, tried}
use Rattle.program_runs.proofs.traced_runs.Passing.{again_on, again_short, again_until, all_told, none_of_entry, none_yet, on_err}
use Rattle.program_runs.proofs.traced_runs.events.entry.Goals as goal

pub returns-then-leaves_out-clause-told : goal.returns-then-leaves_out-clause-told
returns-then-leaves_out-clause-told g c =
    let r = c.repeat.result in
    let entry = c.args.entry in
    none_of_entry c.args.telling.names.now.linked.now c.args.telling.window entry.event entry.repeat c.args.first r.0 r.1 c.args.machine.now c.repeat.new.self c.repeat.ensures.0
    (entry_gone r entry.event entry.repeat c.args.machine.now c.repeat.new.self c.repeat.ensures) (c.leaves_out.ensures c.if-leaves_out.true) (g.W.Sink.contents c.args.output.now)
    c.args.lines.now.text.items

pub events-init : goal.events-init
events-init g c = record {
  within = omega arith;
  so_far = none_yet c.args.telling.names.now.linked.now c.args.telling.window c.args.machine.now c.args.first (g.W.Sink.contents c.args.output.now) c.args.lines.now.text.items;
  failures = refl;
}

pub returns-in_err-count-clause-part : goal.returns-in_err-count-clause-part
returns-in_err-count-clause-part g c =
    let entry = c.args.entry in
    let contents = g.W.Sink.contents in
    let k = c.events.done in
    let within : k + (entry.repeat - k) ≤ entry.repeat = omega (arith, c.events-test.true) in
    on_err c.from_residual.result
    (again_short c.args.telling.names.now.linked.now c.args.telling.window c.args.machine.now c.args.first entry.event k c.events.machine (contents c.args.output.now) (contents c.events.output)
    c.args.lines.now.text.items c.events.lines.text.items c.events.invariant.so_far (c.args.first + c.from.result) (ap (λ j. c.args.first + j) c.from.ensures) entry.repeat (entry.repeat - k) within
    (contents c.some_events.new.output) c.in_err-count.ensures.part)

pub returns-in_default-clause-told : goal.returns-in_default-clause-told
returns-in_default-clause-told g c =
    let entry = c.args.entry in
    let contents = g.W.Sink.contents in
    let k = c.events.done in
    let count = c.in_ok-count.count in
    let why = c.in_ok-count.why in
    let within : k + tried count why ≤ entry.repeat = omega (arith, c.events-test.true, c.in_ok-count.ensures.within) in
    again_until c.args.telling.names.now.linked.now c.args.telling.window c.args.machine.now c.args.first entry.event k c.events.machine (contents c.args.output.now) (contents c.events.output)
    c.args.lines.now.text.items c.events.lines.text.items c.events.invariant.so_far (c.args.first + c.from.result) (ap (λ j. c.args.first + j) c.from.ensures) entry.repeat count why within
    c.in_default.not-Most c.some_events.new.machine (contents c.some_events.new.output) c.some_events.new.lines.text.items c.in_ok-count.ensures.told

pub events-preserved : goal.events-preserved
events-preserved g c =
    let entry = c.args.entry in
    let contents = g.W.Sink.contents in
    let k = c.events.done in
    record {
      within = omega (arith, c.events-test.true, c.in_ok-count.ensures.bound);
      so_far =
          again_on c.args.telling.names.now.linked.now c.args.telling.window c.args.machine.now c.args.first entry.event k c.events.machine (contents c.args.output.now) (contents c.events.output)
          c.args.lines.now.text.items c.events.lines.text.items c.events.invariant.so_far (c.args.first + c.from.result) (ap (λ j. c.args.first + j) c.from.ensures) c.in_ok-count.count c.in_ok-count.why c.in-Most.is
          c.some_events.new.machine (contents c.some_events.new.output) c.some_events.new.lines.text.items c.in_ok-count.ensures.told;
      failures = c.in_ok-count.ensures.counted ∙ c.events.invariant.failures;
    }

pub returns-clause-told : goal.returns-clause-told
returns-clause-told g c =
    let trees = c.args.telling.names.now.linked.now in
    let window = c.args.telling.window in
    let entry = c.args.entry in
    let contents = g.W.Sink.contents in
    let all : c.events.done ≡ entry.repeat = omega (arith, c.events-test.false, c.events.invariant.within) in
    let has_told =
    all_told trees window c.args.machine.now c.args.first (replicate c.events.done entry.event) c.events.done c.events.machine (contents c.args.output.now) (contents c.events.output)
    c.args.lines.now.text.items c.events.lines.text.items c.events.invariant.so_far
    in
    subst (λ k. HasTold trees window c.args.machine.now c.args.first (replicate k entry.event) k stopped.Most c.events.machine (contents c.args.output.now) (contents c.events.output) c.args.lines.now.text.items
    c.events.lines.text.items) all has_told
