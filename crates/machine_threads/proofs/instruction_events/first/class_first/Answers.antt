use Rattle.std.proofs.Common.{ℕ, ap, ◌==◌}
use Rattle.machine_threads.proofs.instruction_events.Classes.{not_zero, by_need, by_pick, by_none}
use Rattle.machine_threads.proofs.instruction_events.first.class_first.Goals as goal

-- src/first.rt:13:1
pub returns-then-pick-eq0 : goal.returns-then-pick-eq0
returns-then-pick-eq0 c = λ trees bounds inflated state frame rest code site meaning is frames.
    by_need trees c.args.program.now bounds inflated (record { thread = c.args.thread; pick = c.args.pick }) c.args.shared.now c.args.stack.now state frame rest code site meaning c.args.instruction is frames
    c.instructions_are_done.ensures.holds (ap (λ (n : ℕ). n == 0) c.if-pick-eq0.true) c.in-Some.class c.in-Some.ensures c.need_class.result c.need_class.new.shared c.need_class.new.stack c.need_class.ensures

-- src/first.rt:13:1
pub returns-else-pick-eq0 : goal.returns-else-pick-eq0
returns-else-pick-eq0 c = λ trees bounds inflated state frame rest code site meaning is frames.
    by_pick trees c.args.program.now bounds inflated (record { thread = c.args.thread; pick = c.args.pick }) c.args.shared.now c.args.stack.now state frame rest code site meaning c.args.instruction is frames
    c.instructions_are_done.ensures.holds (not_zero c.args.pick c.if-pick-eq0.false) c.in-Some.class c.in-Some.ensures

-- src/first.rt:13:1
pub returns-in-None : goal.returns-in-None
returns-in-None c = λ trees bounds inflated state frame rest code site meaning is frames.
    by_none trees c.args.program.now bounds inflated (record { thread = c.args.thread; pick = c.args.pick }) c.args.shared.now c.args.stack.now state frame rest code site meaning c.args.instruction is frames
    c.instructions_are_done.ensures.holds c.in-None.ensures
