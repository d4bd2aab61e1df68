use Rattle.std.proofs.Common.{◌≡◌, ◌≤◌, suc, length, take, drop, get_or, sym, ap, subst, ◌∙◌, arith}
use Rattle.std.proofs.lemmas.List.{take_all}
use Rattle.model.specs.declared.event.ScheduleEntry.{ScheduleEntry}
use Rattle.model.specs.Schedule.{events_of}
use Rattle.machine.proofs.schedule_runs.Joined.{around, one_more}
use Rattle.program_runs.proofs.continued_runs.Passing.{HasPassed, begins, goes_on, stops_if, all_done}
use Rattle.program_runs.proofs.continued_runs.following.follow.Goals as goal

abbrev no_entry : ScheduleEntry
no_entry = record { event = record { thread = 0; pick = 0 }; repeat = 0 }

pub entries-init : goal.entries-init
entries-init g c = begins c.args.world.now c.requires

pub returns-then-done-entry : goal.returns-then-done-entry
returns-then-done-entry g c =
    let items = c.entries-entry-items.result.now in
    let i = c.entries.entry-index in
    let entry : ScheduleEntry = get_or items i no_entry in
    stops_if (events_of (take i items)) c.args.world.now c.entries.world c.repeat.new.self c.entries.invariant entry.event entry.repeat c.in_ok-done.done c.in_ok-done.why c.in_ok-done.ensures.done
    c.if-done-entry.true (events_of (drop (suc i) items)) (events_of c.args.schedule.now)
    (ap events_of (sym c.entries-entry-items.ensures.are) ∙ around items i no_entry c.entries-test.true) c.unless_memory.result c.unless_memory.ensures.same

pub entries-preserved : goal.entries-preserved
entries-preserved g c =
    let items = c.entries-entry-items.result.now in
    let i = c.entries.entry-index in
    let entry : ScheduleEntry = get_or items i no_entry in
    subst (λ l. HasPassed l c.args.world.now c.repeat.new.self) (sym (one_more items i no_entry c.entries-test.true))
    (goes_on (events_of (take i items)) c.args.world.now c.entries.world c.repeat.new.self c.entries.invariant entry.event entry.repeat c.in_ok-done.done c.in_ok-done.why c.in_ok-done.ensures.done
    (λ less. omega (arith, less, c.if-done-entry.false)))

pub returns : goal.returns
returns g c =
    let items = c.entries-entry-items.result.now in
    let i = c.entries.entry-index in
    let le : length items ≤ i = omega (arith, c.entries-test.false) in
    let all : take i items ≡ c.args.schedule.now = take_all i items le ∙ c.entries-entry-items.ensures.are in
    all_done (events_of c.args.schedule.now) c.args.world.now c.entries.world (subst (λ es. HasPassed (events_of es) c.args.world.now c.entries.world) all c.entries.invariant)
