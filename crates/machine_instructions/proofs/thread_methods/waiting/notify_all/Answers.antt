use Rattle.std.proofs.Common.{ℕ, Bool, drop, take, refl, sym, subst, [], ◌≡◌, ◌∙◌}
use Rattle.model.specs.BuiltInMethods.{object_of, if_owner, notified_all}
use Rattle.model.specs.Classes.{Program}
use Rattle.model.specs.Operands.{words}
use Rattle.model.specs.Sites.{pushing}
use Rattle.model.specs.State.{WorldOf, FrameOf, StackOf, Notified}
use Rattle.model.specs.Worlds.{is_owner, waiters_of}
use Rattle.model.specs.Step.{SteppedOf, PartOf, become}
use Rattle.run_laws.specs.word_operands.Receivers.{is_any}
use Rattle.linked_code.specs.declared.method.BuiltInMethod.TheVariants as method
use Rattle.machine_state.specs.Events.{IsDone}
use Rattle.machine_state.proofs.entries.Changing.{both_shown}
use Rattle.heap.specs.monitor_events.Tables.{BothBecome}
use Rattle.machine_instructions.proofs.thread_methods.Calls.{same_object, says_over, as_many, free}
use Rattle.machine_instructions.proofs.thread_methods.WaitSets.{all_are_woken}
use Rattle.machine_instructions.proofs.thread_methods.waiting.notify_all.Goals as goal

-- by whether the thread is the owner
abbrev notifies : Program → ℕ → ℕ → WorldOf ℕ → FrameOf ℕ → StackOf ℕ → (count offset object : ℕ) → (owner : Bool) → SteppedOf (PartOf ℕ)
notifies trees frames t world frame rest count offset object owner =
    become words trees frames t world frame rest (if_owner owner (pushing offset [] (notified_all world t object) frame.place.slots (drop count frame.place.slots.stack)))

pub returns-then-not-notify_all : goal.returns-then-not-notify_all
returns-then-not-notify_all c = λ p trees bounds inflated state frame rest offset is frames.
    let object = object_of words (take c.args.operands frame.place.slots.stack) 0 in
    let owner = sym c.if-not-notify_all.true ∙ says_over trees p bounds inflated c.args.thread c.args.shared.now c.args.stack.now state frame rest method.ObjectNotifyAll c.args.operands c.args.next offset is is_any is.arguments c.object-object.result c.object-object.ensures (λ world object. is_owner world c.args.thread object) c.notify_all.result (c.notify_all.ensures.owner state.world) in (
      (λ i. notifies trees frames c.args.thread state.world frame rest c.args.operands offset object (sym owner i)),
      record { shared = λ i. record c.args.shared.now { heap = c.if-not-notify_all.ensures.after.0 i; threads = c.if-not-notify_all.ensures.after.1 i }; stack = refl },
    )

pub returns : goal.returns
returns c = λ p trees bounds inflated state frame rest offset is frames.
    let old = c.args.shared.now in
    let new = record old { heap = c.notify_all.new.heap; threads = c.notify_all.new.threads } in
    let object = object_of words (take c.args.operands frame.place.slots.stack) 0 in
    let owner = sym c.if-not-notify_all.false ∙ says_over trees p bounds inflated c.args.thread c.args.shared.now c.args.stack.now state frame rest method.ObjectNotifyAll c.args.operands c.args.next offset is is_any is.arguments c.object-object.result c.object-object.ensures (λ world object. is_owner world c.args.thread object) c.notify_all.result (c.notify_all.ensures.owner state.world) in
    let is_object : c.object-object.result ≡ object = sym (same_object trees p bounds inflated c.args.thread c.args.shared.now c.args.stack.now state frame rest method.ObjectNotifyAll c.args.operands c.args.next offset is 0 is_any is.arguments c.object-object.result c.object-object.ensures) in
    let b : BothBecome (λ world. notified_all world c.args.thread object) old.heap.locks.fat old.heap new.heap old.threads new.threads =
    subst (λ o. BothBecome (λ world. notified_all world c.args.thread o) old.heap.locks.fat old.heap new.heap old.threads new.threads) is_object c.if-not-notify_all.ensures.after
    in
    let after = notified_all state.world c.args.thread object in
    let r = both_shown trees p bounds state.world old new is.lent.represents (λ world. notified_all world c.args.thread object) old.heap.locks.fat b refl in
    subst (λ (e : SteppedOf (PartOf ℕ)). IsDone trees p bounds inflated state.world e old new c.go_on.new.stack)
    (λ i. notifies trees frames c.args.thread state.world frame rest c.args.operands offset object (owner i))
    (free trees p bounds inflated c.args.thread c.args.shared.now c.args.stack.now state frame rest method.ObjectNotifyAll c.args.operands c.args.next offset is after new r b.fat_are refl (as_many trees p bounds inflated c.args.thread c.args.shared.now c.args.stack.now state frame rest method.ObjectNotifyAll c.args.operands c.args.next offset is after new r (all_are_woken object Notified (waiters_of state.world object) _)) c.go_on.new.stack [] c.go_on.ensures)
