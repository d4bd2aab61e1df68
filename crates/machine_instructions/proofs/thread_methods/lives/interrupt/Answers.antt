use Rattle.std.proofs.Common.{ℕ, Option, Some, None, [], refl, subst}
use Rattle.model.specs.BuiltInMethods.{interrupted_in, interrupted_on}
use Rattle.model.specs.Outcomes.{Free}
use Rattle.model.specs.Worlds.{thread_at, thread_of}
use Rattle.model.specs.Step.{Next, part}
use Rattle.run_laws.specs.word_operands.Receivers.{is_any}
use Rattle.linked_code.specs.declared.method.BuiltInMethod.TheVariants as method
use Rattle.machine_state.specs.Events.{IsDone}
use Rattle.machine_state.proofs.entries.Changing.{both_shown}
use Rattle.machine_instructions.proofs.thread_methods.Calls.{gone_on, says, as_many, free, same}
use Rattle.machine_instructions.proofs.thread_methods.WaitSets.{one_interrupted}
use Rattle.machine_instructions.proofs.thread_methods.lives.interrupt.Goals.{in-Some, in_default}
use Rattle.machine_instructions.proofs.thread_methods.lives.interrupt.Goals as goal

pub returns : goal.returns
returns c = λ t p trees bounds inflated state frame rest offset is frames.
    let old = c.args.shared.now in
    elim c.match-number.branch [
      | in-Some w ↦
          let target = w.in-Some.target in
          let new = record old { heap = w.interrupt.new.heap; threads = w.interrupt.new.threads } in
          let after = interrupted_in state.world target (thread_at state.world target).status in
          let r = both_shown trees p bounds state.world old new is.lent.represents (λ world. interrupted_in world target (thread_at world target).status) old.heap.locks.fat w.interrupt.ensures refl in
          rw (w.shared-is) (subst (λ (n : Option ℕ). IsDone trees p bounds inflated state.world (Next Free (part (interrupted_on state.world n) (gone_on trees p bounds inflated t c.args.shared.now c.args.stack.now state frame rest method.ThreadInterrupt c.args.operands c.args.next offset is []))) old new c.go_on.new.stack)
          (says trees p bounds inflated t c.args.shared.now c.args.stack.now state frame rest method.ThreadInterrupt c.args.operands c.args.next offset is is_any is.arguments c.object.result c.object.ensures (λ world object. thread_of world object) (Some target) w.in-Some.ensures)
          (free trees p bounds inflated t c.args.shared.now c.args.stack.now state frame rest method.ThreadInterrupt c.args.operands c.args.next offset is after new r w.interrupt.ensures.fat_are refl
          (as_many trees p bounds inflated t c.args.shared.now c.args.stack.now state frame rest method.ThreadInterrupt c.args.operands c.args.next offset is after new r (one_interrupted state.world target (thread_at state.world target).status)) c.go_on.new.stack [] c.go_on.ensures))
      | in_default w ↦
          rw (w.shared-is) (subst (λ (n : Option ℕ). IsDone trees p bounds inflated state.world (Next Free (part (interrupted_on state.world n) (gone_on trees p bounds inflated t c.args.shared.now c.args.stack.now state frame rest method.ThreadInterrupt c.args.operands c.args.next offset is []))) old old c.go_on.new.stack)
          (says trees p bounds inflated t c.args.shared.now c.args.stack.now state frame rest method.ThreadInterrupt c.args.operands c.args.next offset is is_any is.arguments c.object.result c.object.ensures (λ world object. thread_of world object) None w.in_default.ensures)
          (same trees p bounds inflated t c.args.shared.now c.args.stack.now state frame rest method.ThreadInterrupt c.args.operands c.args.next offset is c.go_on.new.stack [] c.go_on.ensures))
    ]
