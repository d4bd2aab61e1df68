use Rattle.program_runs.proofs.policies.Picked.{found_on_top, none_on_top, without_frame}
use Rattle.program_runs.proofs.policies.picks.stack_picks.Goals as goal

pub returns-in_default : goal.returns-in_default
returns-in_default c = λ trees bounds inflated state own frames program lent status pending k.
    without_frame trees c.args.program.now frames c.args.thread k state.world c.args.stack.now own lent.shows_stack c.in_default.ensures

pub returns-in-Some-instruction_at : goal.returns-in-Some-instruction_at
returns-in-Some-instruction_at c =
    found_on_top c.frames_stand.ensures.holds c.args.program.now c.args.thread c.args.shared.now c.args.stack.now _ c.in-Some.ensures
    c.instruction_picks.result c.in-Some-instruction_at.instruction c.in-Some-instruction_at.ensures c.instruction_picks.ensures

pub returns-in-None : goal.returns-in-None
returns-in-None c =
    none_on_top c.frames_stand.ensures.holds c.args.program.now c.args.thread c.args.shared.now c.args.stack.now _ c.in-Some.ensures 0 c.in-None.ensures
