use Rattle.std.proofs.Common.{ℕ, Bool, ◌||◌, not, drop, refl, sym, subst, [], ◌∙◌}
use Rattle.model.specs.Operands.{words}
use Rattle.model.specs.BuiltInMethods.{join_by}
use Rattle.model.specs.State.{WorldOf, FrameOf, StackOf}
use Rattle.model.specs.Classes.{Program}
use Rattle.model.specs.Worlds.{is_alive, thread_at}
use Rattle.model.specs.Step.{SteppedOf, PartOf, enabled_if, become}
use Rattle.run_laws.specs.word_operands.Receivers.{is_any}
use Rattle.linked_code.specs.declared.method.BuiltInMethod.TheVariants as method
use Rattle.machine_state.specs.Events.{IsDone}
use Rattle.machine_instructions.proofs.thread_methods.Calls.{same, says, row_is}
use Rattle.machine_instructions.proofs.thread_methods.lives.join.Goals as goal

-- by whether the target is alive, and whether the thread is interrupted
abbrev joined : Program → ℕ → ℕ → WorldOf ℕ → FrameOf ℕ → StackOf ℕ → (count offset : ℕ) → (alive interrupted : Bool) → SteppedOf (PartOf ℕ)
joined trees frames t world frame rest count offset alive interrupted =
    enabled_if (not alive || interrupted) (become words trees frames t world frame rest (join_by alive offset world frame.place.slots (drop count frame.place.slots.stack)))

pub returns-then-interrupted : goal.returns-then-interrupted
returns-then-interrupted c = λ p trees bounds inflated state frame rest offset is frames.
    let alive = sym c.if-is_alive.true ∙ says trees p bounds inflated c.args.thread c.args.shared.now c.args.stack.now state frame rest method.ThreadJoin c.args.operands c.args.next offset is is_any is.arguments c.object.result c.object.ensures (λ world object. is_alive world object) c.is_alive.result (c.is_alive.ensures state.world) in
    let interrupted = sym c.if-interrupted.true ∙ c.interrupted.ensures ∙ row_is trees p bounds inflated c.args.thread c.args.shared.now c.args.stack.now state frame rest method.ThreadJoin c.args.operands c.args.next offset is (λ row. row.interrupted) in
    ((λ i. joined trees frames c.args.thread state.world frame rest c.args.operands offset (sym alive i) (sym interrupted i)), record { shared = refl; stack = refl })

pub returns-then-is_alive : goal.returns-then-is_alive
returns-then-is_alive c = λ p trees bounds inflated state frame rest offset is frames.
    let alive = sym c.if-is_alive.true ∙ says trees p bounds inflated c.args.thread c.args.shared.now c.args.stack.now state frame rest method.ThreadJoin c.args.operands c.args.next offset is is_any is.arguments c.object.result c.object.ensures (λ world object. is_alive world object) c.is_alive.result (c.is_alive.ensures state.world) in
    let interrupted = sym c.if-interrupted.false ∙ c.interrupted.ensures ∙ row_is trees p bounds inflated c.args.thread c.args.shared.now c.args.stack.now state frame rest method.ThreadJoin c.args.operands c.args.next offset is (λ row. row.interrupted) in
    ((λ i. joined trees frames c.args.thread state.world frame rest c.args.operands offset (sym alive i) (sym interrupted i)), record { shared = refl; stack = refl })

pub returns : goal.returns
returns c = λ p trees bounds inflated state frame rest offset is frames.
    let alive = sym c.if-is_alive.false ∙ says trees p bounds inflated c.args.thread c.args.shared.now c.args.stack.now state frame rest method.ThreadJoin c.args.operands c.args.next offset is is_any is.arguments c.object.result c.object.ensures (λ world object. is_alive world object) c.is_alive.result (c.is_alive.ensures state.world) in
    subst (λ b. IsDone trees p bounds inflated state.world (joined trees frames c.args.thread state.world frame rest c.args.operands offset b (thread_at state.world c.args.thread).interrupted) c.args.shared.now c.args.shared.now c.go_on.new.stack)
    alive (same trees p bounds inflated c.args.thread c.args.shared.now c.args.stack.now state frame rest method.ThreadJoin c.args.operands c.args.next offset is c.go_on.new.stack [] c.go_on.ensures)
