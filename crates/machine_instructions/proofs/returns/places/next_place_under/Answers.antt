use Rattle.std.proofs.Common.{Some, drop, subst}
use Rattle.std.proofs.lemmas.Option.{same_Some}
use Rattle.thread_stacks.specs.Stacks.{ShownFrame, shown_frame}
use Rattle.machine_instructions.specs.returns.Places.{GoesOnAt}
use Rattle.machine_instructions.proofs.returns.Going.{next_top}
use Rattle.machine_instructions.proofs.returns.places.next_place_under.Goals as goal

-- src/places.rt:46:1
pub returns-in-Some : goal.returns-in-Some
returns-in-Some c =
    next_top c.args.program.now (drop 1 c.args.stack.now) (Some (shown_frame c.in-Some.frame)) c.in-Some.ensures c.next_place_of.result
    (λ f same. subst (λ (x : ShownFrame). GoesOnAt c.args.program.now x c.next_place_of.result) (same_Some (shown_frame c.in-Some.frame) f same) c.next_place_of.ensures)
