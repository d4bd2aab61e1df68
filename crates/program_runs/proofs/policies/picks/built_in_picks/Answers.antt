use Rattle.std.proofs.Common.{◌≡◌, ◌<◌, ◌-◌, ℕ, suc, take, drop, length, nat_lt, refl, ap, sym, subst, ◌∙◌}
use Rattle.model.specs.BuiltInMethods as built_in
use Rattle.model.specs.BuiltInMethods.{built_in_does, notified, object_of}
use Rattle.model.specs.Operands.{words}
use Rattle.model.specs.Step.{become, enabled_if, is_enabled_by}
use Rattle.model.specs.Worlds.{is_owner, waiters_of}
use Rattle.run_laws.specs.word_operands.Receivers.{is_any}
use Rattle.linked_code.specs.declared.method.BuiltInMethod.{BuiltInMethod}
use Rattle.linked_code.specs.declared.method.BuiltInMethod.TheVariants as method
use Rattle.linked_code.specs.Methods.{built_in_of}
use Rattle.machine_instructions.proofs.thread_methods.Calls.{says_over}
use Rattle.machine_instructions.proofs.thread_methods.There.{receiver_there}
use Rattle.program_runs.specs.policies.Picks.{PicksInBuiltIn, picked, to_wake}
use Rattle.program_runs.proofs.policies.Unpicked.{enabled_by_may, none_below, notify_enabled, notify_may, others_may}
use Rattle.program_runs.proofs.policies.picks.built_in_picks.Goals as goal

pub returns-in-ObjectNotify : goal.returns-in-ObjectNotify
returns-in-ObjectNotify c =
    let t = c.args.thread in
    let old = c.args.shared.now in
    let from = c.args.stack.now in
    subst (λ m. PicksInBuiltIn m t c.waiters_to_wake.result old from) (sym c.in-ObjectNotify.is)
    (λ trees p bounds inflated state frame rest operands next offset frames is k.
    let object = object_of words (take operands frame.place.slots.stack) 0 in
    let there = subst (λ o. o < length old.heap.locks.monitors) (sym c.object_on_top.ensures) (receiver_there trees p bounds inflated t old from state frame rest method.ObjectNotify operands next offset is is_any is.arguments) in
    let count : c.waiters_to_wake.result ≡ to_wake state.world t object =
    says_over trees p bounds inflated t old from state frame rest method.ObjectNotify operands next offset is is_any is.arguments c.object_on_top.result c.object_on_top.ensures
    (λ world object. to_wake world t object) c.waiters_to_wake.result (c.waiters_to_wake.ensures there state.world)
    in
    enabled_by_may _ _ (notify_enabled trees frames t state.world frame rest (is_owner state.world t object) offset (notified state.world t object (suc k)) frame.place.slots (drop operands frame.place.slots.stack))
    ∙ notify_may (is_owner state.world t object) (length (waiters_of state.world object)) k
    ∙ ap (nat_lt (suc k)) (sym count))

pub returns-in_default : goal.returns-in_default
returns-in_default c = λ trees p bounds inflated state frame rest operands next offset frames is k.
    let ops = take operands frame.place.slots.stack in
    ap (λ b. is_enabled_by (enabled_if b (become words trees frames c.args.thread state.world frame rest (built_in_does words trees (built_in_of c.args.method) offset (picked c.args.thread (suc k)) state.world frame.place.slots ops (drop operands frame.place.slots.stack)))))
    (others_may (built_in_of c.args.method) (not_notify c.args.method c.in_default.not-ObjectNotify) c.args.thread k state.world ops)
    ∙ sym (none_below k)
  where
    not_notify : (m : BuiltInMethod) → (m ≡ method.ObjectNotify → ⊥) → built_in_of m ≡ built_in.ObjectNotify → ⊥
    not_notify method.Construct n e = cc
    not_notify method.ObjectClone n e = cc
    not_notify method.ConstructWithMessage n e = cc
    not_notify method.ConstructWithCause n e = cc
    not_notify method.ObjectWait n e = cc
    not_notify method.ObjectNotify n e = n refl
    not_notify method.ObjectNotifyAll n e = cc
    not_notify method.ThreadStart n e = cc
    not_notify method.ThreadInterrupt n e = cc
    not_notify method.ThreadIsInterrupted n e = cc
    not_notify method.ThreadInterrupted n e = cc
    not_notify method.ThreadYield n e = cc
    not_notify method.ThreadCurrentThread n e = cc
    not_notify method.ThreadJoin n e = cc
    not_notify method.ThreadIsAlive n e = cc
    not_notify (method.ThreadNames names) n e = cc
    not_notify (method.PrintStreamPrints print) n e = cc
    not_notify (method.StringAnswers answer) n e = cc
    not_notify (method.StringWrites writes) n e = cc
    not_notify (method.StringBuilderBuilds builds) n e = cc
    not_notify (method.ObjectAnswers builds) n e = cc
