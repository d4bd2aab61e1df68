use Rattle.std.proofs.Common.{sym, subst}
use Rattle.thread_stacks.specs.Stacks.{shown_frame}
use Rattle.machine_instructions.specs.returns.Places.{GoesOnAt}
use Rattle.machine_instructions.proofs.returns.Going.{next_goes, none_goes}
use Rattle.machine_instructions.proofs.returns.places.next_place_of.Goals as goal

-- src/places.rt:23:1
pub returns-in-Some : goal.returns-in-Some
returns-in-Some c =
    subst (GoesOnAt c.args.program.now (shown_frame c.args.frame.now)) (sym c.next_place.ensures) (next_goes c.args.program.now (shown_frame c.args.frame.now) c.in-Some.code.now c.in-Some.ensures)

-- src/places.rt:23:1
pub returns-in-None : goal.returns-in-None
returns-in-None c = none_goes c.args.program.now (shown_frame c.args.frame.now) c.args.frame.now.place c.in-None.ensures
