use Rattle.std.proofs.Common.{◌≡◌, ◌≤◌, ◌+◌, suc, length, take, drop, get_or, refl, sym, ap, subst, ◌∙◌, arith, zero-add}
use Rattle.std.proofs.lemmas.List.{take_all}
use Rattle.model.specs.declared.event.ScheduleEntry.{ScheduleEntry}
use Rattle.model.specs.Schedule.{events_of}
use Rattle.machine.proofs.schedule_runs.Joined.{of_entry, around, one_more}
use Rattle.program_runs.specs.traced_runs.Telling.{HasTold}
use Rattle.program_runs.proofs.traced_runs.Passing.{HasPassed, all_told, none_yet, on_err, told_on, told_short, told_until}
use Rattle.program_runs.proofs.traced_runs.run.gathered.Goals as goal

abbrev pub no_entry : ScheduleEntry
no_entry = record { event = record { thread = 0; pick = 0 }; repeat = 0 }

pub entries-init : goal.entries-init
entries-init g c = record {
  below = omega arith;
  so_far = none_yet c.args.telling.names.now.linked.now c.args.telling.window c.args.machine.now 0 (g.W.Sink.contents c.args.output.now) c.args.lines.now.text.items;
  failures = refl;
}

pub returns-in_err-count-clause-part : goal.returns-in_err-count-clause-part
returns-in_err-count-clause-part g c =
    let trees = c.args.telling.names.now.linked.now in
    let window = c.args.telling.window in
    let contents = g.W.Sink.contents in
    let items = c.entries-given-items.result.now in
    let i = c.entries.given-index in
    let entry = of_entry (get_or items i no_entry) in
    on_err c.from_residual.result
    (told_short trees window c.args.machine.now 0 (events_of (take i items)) c.entries.done c.entries.machine (contents c.args.output.now) (contents c.entries.output) c.args.lines.now.text.items
    c.entries.lines.text.items c.entries.invariant.so_far c.entries.done (sym (zero-add c.entries.done)) entry (contents c.entry.new.output) c.in_err-count.ensures.part (events_of c.args.schedule.now) (events_of (drop (suc i) items))
    (ap events_of (sym c.entries-given-items.ensures.are) ∙ around items i no_entry c.entries-test.true))

pub returns-in_default-clause-told : goal.returns-in_default-clause-told
returns-in_default-clause-told g c =
    let trees = c.args.telling.names.now.linked.now in
    let window = c.args.telling.window in
    let contents = g.W.Sink.contents in
    let items = c.entries-given-items.result.now in
    let i = c.entries.given-index in
    let entry = of_entry (get_or items i no_entry) in
    let count = c.in_ok-count.count in
    let why = c.in_ok-count.why in
    subst (λ k. HasTold trees window c.args.machine.now 0 (events_of c.args.schedule.now) (c.entries.done + k) why c.entry.new.machine (contents c.args.output.now) (contents c.entry.new.output)
    c.args.lines.now.text.items c.entry.new.lines.text.items) (sym c.from-done.ensures)
    (told_until trees window c.args.machine.now 0 (events_of (take i items)) c.entries.done c.entries.machine (contents c.args.output.now) (contents c.entries.output) c.args.lines.now.text.items
    c.entries.lines.text.items c.entries.invariant.so_far c.entries.done (sym (zero-add c.entries.done)) entry count why c.entry.new.machine (contents c.entry.new.output) c.entry.new.lines.text.items
    c.in_ok-count.ensures.told c.in_default.not-Most (events_of c.args.schedule.now)
    (events_of (drop (suc i) items)) (ap events_of (sym c.entries-given-items.ensures.are) ∙ around items i no_entry c.entries-test.true))

pub entries-preserved : goal.entries-preserved
entries-preserved g c =
    let trees = c.args.telling.names.now.linked.now in
    let window = c.args.telling.window in
    let contents = g.W.Sink.contents in
    let items = c.entries-given-items.result.now in
    let i = c.entries.given-index in
    let entry = of_entry (get_or items i no_entry) in
    let count = c.in_ok-count.count in
    let why = c.in_ok-count.why in
    let on = told_on trees window c.args.machine.now 0 (events_of (take i items)) c.entries.done c.entries.machine (contents c.args.output.now) (contents c.entries.output) c.args.lines.now.text.items
    c.entries.lines.text.items c.entries.invariant.so_far c.entries.done (sym (zero-add c.entries.done)) entry count why c.in-Most.is c.entry.new.machine (contents c.entry.new.output)
    c.entry.new.lines.text.items c.in_ok-count.ensures.told
    in
    let by_entries = subst (λ es. HasPassed trees window c.args.machine.now 0 es (c.entries.done + count) c.entry.new.machine (contents c.args.output.now) (contents c.entry.new.output) c.args.lines.now.text.items
    c.entry.new.lines.text.items) (sym (one_more items i no_entry c.entries-test.true)) on
    in
    record {
      below = omega (arith, c.entries.invariant.below, c.from-done.ensures, c.entry.type_inv);
      so_far =
          subst (λ k. HasPassed trees window c.args.machine.now 0 (events_of (take (i + 1) items)) (c.entries.done + k) c.entry.new.machine (contents c.args.output.now) (contents c.entry.new.output)
          c.args.lines.now.text.items c.entry.new.lines.text.items) (sym c.from-done.ensures) by_entries;
      failures = c.in_ok-count.ensures.counted ∙ c.entries.invariant.failures;
    }

pub returns-clause-told : goal.returns-clause-told
returns-clause-told g c =
    let trees = c.args.telling.names.now.linked.now in
    let window = c.args.telling.window in
    let contents = g.W.Sink.contents in
    let items = c.entries-given-items.result.now in
    let i = c.entries.given-index in
    let le : length items ≤ i = omega (arith, c.entries-test.false) in
    let all : take i items ≡ c.args.schedule.now = take_all i items le ∙ c.entries-given-items.ensures.are in
    all_told trees window c.args.machine.now 0 (events_of c.args.schedule.now) c.entries.done c.entries.machine (contents c.args.output.now) (contents c.entries.output) c.args.lines.now.text.items
    c.entries.lines.text.items
    (subst (λ es. HasPassed trees window c.args.machine.now 0 (events_of es) c.entries.done c.entries.machine (contents c.args.output.now) (contents c.entries.output) c.args.lines.now.text.items
    c.entries.lines.text.items) all c.entries.invariant.so_far)
