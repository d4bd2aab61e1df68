use Rattle.std.proofs.Common.{◌≡◌, ◌≤◌, ◌+◌, ◌++◌, suc, length, take, drop, get_or, sym, ap, subst, ◌∙◌, arith}
use Rattle.std.proofs.lemmas.List.{take_all}
use Rattle.model.specs.declared.event.ScheduleEntry.{ScheduleEntry}
use Rattle.model.specs.Schedule.{events_of}
use Rattle.machine.specs.declared.machine.Stopped.TheVariants as stopped
use Rattle.machine.specs.schedule_runs.Done.{GoesThrough}
use Rattle.machine.proofs.schedule_runs.Joined.{IsPassed, begins, goes_on, stops, all_done, of_entry, around, one_more}
use Rattle.machine.proofs.schedule_runs.run.run_schedule.Goals as goal

abbrev pub no_entry : ScheduleEntry
no_entry = record { event = record { thread = 0; pick = 0 }; repeat = 0 }

pub entries-init : goal.entries-init
entries-init c = (omega arith, begins c.args.machine.now)

pub returns-in_default : goal.returns-in_default
returns-in_default c =
    let items = c.entries-entry-items.result.now in
    let i = c.entries.entry-index in
    subst (λ k. GoesThrough (c.entries.done + k, c.run_entry-count.result.1) (events_of c.args.schedule.now) c.args.machine.now c.run_entry-count.new.machine) (sym c.from-done.ensures)
    (stops (events_of (take i items)) c.entries.done c.args.machine.now c.entries.machine c.run_entry-count.new.machine c.entries.invariant.1 (of_entry (get_or items i no_entry)) c.run_entry-count.result.0
    c.run_entry-count.result.1 c.in_default.not-Most c.run_entry-count.ensures (events_of c.args.schedule.now) (events_of (drop (suc i) items))
    (ap events_of (sym c.entries-entry-items.ensures.are) ∙ around items i no_entry c.entries-test.true))

pub entries-preserved : goal.entries-preserved
entries-preserved c =
    let items = c.entries-entry-items.result.now in
    let i = c.entries.entry-index in
    let all : GoesThrough (c.run_entry-count.result.0, stopped.Most) (of_entry (get_or items i no_entry)) c.entries.machine c.run_entry-count.new.machine =
    subst (λ why. GoesThrough (c.run_entry-count.result.0, why) (of_entry (get_or items i no_entry)) c.entries.machine c.run_entry-count.new.machine) c.in-Most.is c.run_entry-count.ensures
    in
    let on = goes_on (events_of (take i items)) c.entries.done c.args.machine.now c.entries.machine c.run_entry-count.new.machine c.entries.invariant.1 (of_entry (get_or items i no_entry)) c.run_entry-count.result.0 all in (
      omega (arith, c.entries.invariant.0, c.from-done.ensures, c.run_entry-count.type_inv),
      subst (λ l. IsPassed l (c.entries.done + c.from-done.result) c.args.machine.now c.run_entry-count.new.machine) (sym (one_more items i no_entry c.entries-test.true))
          (subst (λ k. IsPassed (events_of (take i items) ++ of_entry (get_or items i no_entry)) (c.entries.done + k) c.args.machine.now c.run_entry-count.new.machine) (sym c.from-done.ensures) on),
    )

pub returns : goal.returns
returns c =
    let items = c.entries-entry-items.result.now in
    let i = c.entries.entry-index in
    let le : length items ≤ i = omega (arith, c.entries-test.false) in
    let all : take i items ≡ c.args.schedule.now = take_all i items le ∙ c.entries-entry-items.ensures.are in
    all_done (events_of c.args.schedule.now) c.entries.done c.args.machine.now c.entries.machine
    (subst (λ es. IsPassed (events_of es) c.entries.done c.args.machine.now c.entries.machine) all c.entries.invariant.1)
