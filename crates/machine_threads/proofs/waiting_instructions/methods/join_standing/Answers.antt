use Rattle.std.proofs.Common.{ℕ, Bool, ◌||◌, not, drop, sym, ◌∙◌}
use Rattle.model.specs.Operands.{words}
use Rattle.model.specs.BuiltInMethods.{join_by}
use Rattle.model.specs.Classes.{Program}
use Rattle.model.specs.State.{WorldOf, FrameOf, StackOf}
use Rattle.model.specs.Worlds.{is_alive, thread_at}
use Rattle.model.specs.Step.{is_enabled_by, enabled_if, become}
use Rattle.run_laws.specs.word_operands.Receivers.{is_any}
use Rattle.linked_code.specs.declared.method.BuiltInMethod.TheVariants as method
use Rattle.machine_instructions.proofs.thread_methods.Calls.{says, row_is}
use Rattle.machine_threads.proofs.waiting_instructions.methods.join_standing.Goals as goal

-- whether it is enabled, by whether the target is alive, and whether the thread is interrupted
abbrev joined : Program → ℕ → ℕ → WorldOf ℕ → FrameOf ℕ → StackOf ℕ → (count offset : ℕ) → (alive interrupted : Bool) → Bool
joined trees frames t world frame rest count offset alive interrupted =
    is_enabled_by (enabled_if (not alive || interrupted) (become words trees frames t world frame rest (join_by alive offset world frame.place.slots (drop count frame.place.slots.stack))))

pub returns-then-interrupted : goal.returns-then-interrupted
returns-then-interrupted c = λ trees p bounds inflated state frame rest count next offset frames is.
    let alive = sym c.if-is_alive.true ∙ says trees p bounds inflated c.args.thread c.args.shared.now c.args.stack.now state frame rest method.ThreadJoin count next offset is is_any is.arguments c.object_on_top.result c.object_on_top.ensures (λ world object. is_alive world object) c.is_alive.result (c.is_alive.ensures state.world) in
    let interrupted = sym c.if-interrupted.true ∙ c.interrupted.ensures ∙ row_is trees p bounds inflated c.args.thread c.args.shared.now c.args.stack.now state frame rest method.ThreadJoin count next offset is (λ row. row.interrupted) in
    λ i. joined trees frames c.args.thread state.world frame rest count offset (sym alive i) (sym interrupted i)

pub returns-then-is_alive : goal.returns-then-is_alive
returns-then-is_alive c = λ trees p bounds inflated state frame rest count next offset frames is.
    let alive = sym c.if-is_alive.true ∙ says trees p bounds inflated c.args.thread c.args.shared.now c.args.stack.now state frame rest method.ThreadJoin count next offset is is_any is.arguments c.object_on_top.result c.object_on_top.ensures (λ world object. is_alive world object) c.is_alive.result (c.is_alive.ensures state.world) in
    let interrupted = sym c.if-interrupted.false ∙ c.interrupted.ensures ∙ row_is trees p bounds inflated c.args.thread c.args.shared.now c.args.stack.now state frame rest method.ThreadJoin count next offset is (λ row. row.interrupted) in (
      λ i. joined trees frames c.args.thread state.world frame rest count offset (sym alive i) (sym interrupted i),
      λ i. joined trees 0 c.args.thread state.world frame rest count offset (sym alive i) (sym interrupted i),
    )

pub returns : goal.returns
returns c = λ trees p bounds inflated state frame rest count next offset frames is.
    let alive = sym c.if-is_alive.false ∙ says trees p bounds inflated c.args.thread c.args.shared.now c.args.stack.now state frame rest method.ThreadJoin count next offset is is_any is.arguments c.object_on_top.result c.object_on_top.ensures (λ world object. is_alive world object) c.is_alive.result (c.is_alive.ensures state.world) in
    λ i. joined trees frames c.args.thread state.world frame rest count offset (sym alive i) (thread_at state.world c.args.thread).interrupted
