use Rattle.std.proofs.Common.{[], ◌∷◌, Ok, sym, subst}
use Rattle.model.specs.Operands.{words}
use Rattle.model.specs.Frames.{frame_with}
use Rattle.model.specs.Worlds.{with_begun}
use Rattle.model.specs.Step.{pushed}
use Rattle.machine_state.specs.declared.state.Shared.{Shared}
use Rattle.machine_state.specs.Instructions.{Does}
use Rattle.machine_threads.proofs.thread_begins.First.{begun, refused}
use Rattle.machine_threads.proofs.thread_begins.first_frames.push_first.Goals as goal

pub returns-in-Ok : goal.returns-in-Ok
returns-in-Ok c = λ trees p bounds inflated world s shows method body is.
    let t = c.args.thread in
    let frame = frame_with words method (c.args.argument ∷ []) c.args.callee.entered body in
    subst (λ (m : Shared). Does trees p bounds inflated t world [] (pushed words trees c.args.frames t world (with_begun world t) [] [] frame) (Ok c.in-Ok.effect) c.args.shared.now m c.args.stack.now c.first_call.new.stack) (sym c.begin_where_done.ensures)
    (begun trees p bounds inflated world t c.args.frames frame c.args.shared.now c.args.stack.now c.if-frames-eq0.false c.in-Ok.effect c.first_call.new.shared c.first_call.new.stack
    (c.in-Ok.ensures trees p bounds inflated world s [] shows method body is))

pub returns-in-Err : goal.returns-in-Err
returns-in-Err c = λ trees p bounds inflated world s shows method body is.
    refused trees p bounds inflated world c.args.thread c.args.frames (frame_with words method (c.args.argument ∷ []) c.args.callee.entered body) c.args.shared.now c.args.stack.now c.if-frames-eq0.false c.in-Err.refusal c.first_call.new.shared c.first_call.new.stack
    (c.in-Err.ensures trees p bounds inflated world s [] shows method body is)
