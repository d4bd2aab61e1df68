use Rattle.std.proofs.Common.{Some, None, ◌≡◌, sym, subst}
use Rattle.std.proofs.lemmas.Option.{same_Some}
use Rattle.linked_code.specs.declared.instruction.LinkedInstruction.{LinkedInstruction}
use Rattle.machine_state.specs.linked_frames.Frames.{IsRunning}
use Rattle.machine_threads.proofs.waiting_instructions.instructions.instruction_standing.Goals as goal

pub returns-in-Some : goal.returns-in-Some
returns-in-Some c = λ trees bounds inflated state frame rest code site meaning instruction is.
    let same : c.in-Some.instruction ≡ instruction = same_Some c.in-Some.instruction instruction (c.in-Some.ensures trees bounds inflated c.args.thread c.args.shared.now state frame rest code site meaning instruction is) in
    c.standing_at.ensures trees bounds inflated state frame rest code site meaning
    (subst (λ (i : LinkedInstruction). IsRunning trees c.args.program.now bounds inflated c.args.thread c.args.shared.now c.args.stack.now state frame rest code site meaning i) (sym same) is)

pub returns-in-None : goal.returns-in-None
returns-in-None c = λ trees bounds inflated state frame rest code site meaning instruction is.
    let both : None ≡ Some instruction = c.in-None.ensures trees bounds inflated c.args.thread c.args.shared.now state frame rest code site meaning instruction is in
    absurd cc
