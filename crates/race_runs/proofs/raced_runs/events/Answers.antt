use Rattle.std.proofs.Common.{◌≡◌, ◌≤◌, ◌+◌, ◌++◌, suc, length, take, drop, get_or, sym, ap, subst, ◌∙◌, arith}
use Rattle.std.proofs.lemmas.List.{take_all}
use Rattle.model.specs.declared.event.ScheduleEntry.{ScheduleEntry}
use Rattle.model.specs.Schedule.{events_of}
use Rattle.machine.specs.declared.machine.Stopped.TheVariants as stopped
use Rattle.machine.proofs.schedule_runs.Joined.{of_entry, around, one_more}
use Rattle.race_runs.specs.raced_runs.Going.{RacesThrough}
use Rattle.race_runs.proofs.raced_runs.Passed.{IsPassed, begins, goes_on, stops, all_done}
use Rattle.race_runs.proofs.raced_runs.events.Goals as goal

abbrev pub no_entry : ScheduleEntry
no_entry = record { event = record { thread = 0; pick = 0 }; repeat = 0 }

pub entries-init : goal.entries-init
entries-init c = (omega arith, begins c.args.machine.now c.args.finder.now)

pub returns-in_default : goal.returns-in_default
returns-in_default c =
    let items = c.entries-given-items.result.now in
    let i = c.entries.given-index in
    let schedule = events_of c.args.schedule.now in
    let old = c.args.machine.now in
    let new = c.entry.new.machine in
    let before = c.args.finder.now in
    let after = c.entry.new.finder in
    let why = c.in_ok-count.why in
    subst (λ k. RacesThrough (c.entries.done + k, why) schedule old new before after) (sym c.from-done.ensures)
    (stops (events_of (take i items)) c.entries.done old c.entries.machine new before c.entries.finder after c.entries.invariant.1 (of_entry (get_or items i no_entry)) c.in_ok-count.count
    why c.in_default.not-Most c.in_ok-count.ensures schedule (events_of (drop (suc i) items))
    (ap events_of (sym c.entries-given-items.ensures.are) ∙ around items i no_entry c.entries-test.true))

pub entries-preserved : goal.entries-preserved
entries-preserved c =
    let items = c.entries-given-items.result.now in
    let i = c.entries.given-index in
    let entry = of_entry (get_or items i no_entry) in
    let old = c.args.machine.now in
    let new = c.entry.new.machine in
    let before = c.args.finder.now in
    let after = c.entry.new.finder in
    let count = c.in_ok-count.count in
    let all : RacesThrough (count, stopped.Most) entry c.entries.machine new c.entries.finder after =
    subst (λ why. RacesThrough (count, why) entry c.entries.machine new c.entries.finder after) c.in-Most.is c.in_ok-count.ensures
    in
    let on = goes_on (events_of (take i items)) c.entries.done old c.entries.machine new before c.entries.finder after c.entries.invariant.1 entry count all in (
      omega (arith, c.entries.invariant.0, c.from-done.ensures),
      subst (λ l. IsPassed l (c.entries.done + c.from-done.result) old new before after) (sym (one_more items i no_entry c.entries-test.true))
          (subst (λ k. IsPassed (events_of (take i items) ++ entry) (c.entries.done + k) old new before after) (sym c.from-done.ensures) on),
    )

pub returns : goal.returns
returns c =
    let items = c.entries-given-items.result.now in
    let i = c.entries.given-index in
    let le : length items ≤ i = omega (arith, c.entries-test.false) in
    let all : take i items ≡ c.args.schedule.now = take_all i items le ∙ c.entries-given-items.ensures.are in
    all_done (events_of c.args.schedule.now) c.entries.done c.args.machine.now c.entries.machine c.args.finder.now c.entries.finder
    (subst (λ es. IsPassed (events_of es) c.entries.done c.args.machine.now c.entries.machine c.args.finder.now c.entries.finder) all c.entries.invariant.1)
