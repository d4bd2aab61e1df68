use Rattle.std.proofs.Common.{Some, subst, sym}
use Rattle.place_texts.specs.Places.{Entry}
use Rattle.place_runs.specs.Worlds.{DoesDeed}
use Rattle.place_runs.proofs.Words.{entry_done, entry_stops}
use Rattle.place_runs.proofs.following.follow_entry.Goals as goal

pub returns-then-done-entry : goal.returns-then-done-entry
returns-then-done-entry c = λ budget.
    entry_done c.args.entry c.args.world.now c.requires.on c.in_ok-done.done c.in_ok-done.why c.repeat.new.self c.in_ok-done.ensures.done budget c.if-done-entry.true

pub returns : goal.returns
returns c = λ budget.
    subst (λ s. DoesDeed (Some s) (Entry c.args.entry) budget c.args.world.now c.repeat.new.self) (sym c.stop_of-stop.ensures)
    (entry_stops c.args.entry c.args.world.now c.requires.on c.in_ok-done.done c.in_ok-done.why c.repeat.new.self c.in_ok-done.ensures.done budget
    c.end.ensures.holds.within c.if-done-entry.false c.in_ok-told.told c.in_ok-told.ensures.same.0 c.in_ok-told.ensures.same.1)
