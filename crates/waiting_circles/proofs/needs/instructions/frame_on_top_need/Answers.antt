use Rattle.std.proofs.Common.{sym, subst}
use Rattle.linked_code.specs.declared.instruction.LinkedInstruction.{LinkedInstruction}
use Rattle.std.proofs.lemmas.Option.{same_Some, none-some}
use Rattle.machine_state.specs.linked_frames.Frames.{IsRunning}
use Rattle.waiting_circles.specs.Needs.{IsNeed}
use Rattle.waiting_circles.proofs.needs.Tops.{at_instruction}
use Rattle.waiting_circles.proofs.needs.instructions.frame_on_top_need.Goals as goal

pub returns-in-Some : goal.returns-in-Some
returns-in-Some c = λ trees bounds inflated state frame rest program lent on_top.
    let p = c.args.program.now in
    let t = c.args.thread in
    let s = c.frames_stand.ensures.holds trees p program bounds inflated t c.args.shared.now c.args.stack.now state frame rest lent on_top in
    let same = same_Some c.in-Some.instruction s.instruction (c.in-Some.ensures trees bounds inflated t c.args.shared.now state frame rest s.code s.site s.meaning s.instruction s.is) in
    subst (IsNeed trees c.instruction_need.result)
    (sym (at_instruction trees p bounds inflated t c.args.shared.now c.args.stack.now state frame rest s.code s.site s.meaning s.instruction c.args.frames s.is))
    (c.instruction_need.ensures trees bounds inflated state frame rest s.code s.site s.meaning
    (subst (λ (i : LinkedInstruction). IsRunning trees p bounds inflated t c.args.shared.now c.args.stack.now state frame rest s.code s.site s.meaning i) (sym same) s.is))

pub returns-in-None : goal.returns-in-None
returns-in-None c = λ trees bounds inflated state frame rest program lent on_top.
    let s = c.frames_stand.ensures.holds trees c.args.program.now program bounds inflated c.args.thread c.args.shared.now c.args.stack.now state frame rest lent on_top in
    absurd (none-some s.instruction (c.in-None.ensures trees bounds inflated c.args.thread c.args.shared.now state frame rest s.code s.site s.meaning s.instruction s.is))
