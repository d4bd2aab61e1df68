use Rattle.std.proofs.Common.{refl, ap, ◌∙◌}
use Rattle.heap.specs.lock_word.Words.{Word}
use Rattle.heap.specs.declared.lock_word.lock.Lock.TheVariants.{Fat, Thin}
use Rattle.heap.specs.declared.monitor.call.Call.TheVariants.{Wait}
use Rattle.heap.proofs.monitor.Done.{inflated_done, inflated_sound, record_done, lock_is}
use Rattle.heap.proofs.monitor.ThinLocks.{waits, Waits}
use Rattle.heap.proofs.monitor.monitors.Monitors.wait.Goals as goal

pub invariant_of-self-then-owner-thread : goal.invariant_of-self-then-owner-thread
invariant_of-self-then-owner-thread c =
    inflated_sound c.self.inside.table c.add_waiting.new.self c.self.inside.words.items c.as_slice.result.now
    c.self.inside.limit c.args.object c.args.self.now
    (Thin c.in-Thin.owner c.in-Thin.entries) c.fat.result _ c.self.view_is c.self.invariant c.requires.0
    c.as_slice.ensures.value (c.in-Thin.ensures.same ∙ c.word_of-word.ensures) refl
    (ap (λ (w : Word). w.lock) c.fat.ensures ∙ ap Fat c.in_ok-index-in-Thin.ensures.next.0)
    c.in_ok-index-in-Thin.ensures.next.1 c.in_ok-add_waiting-in-Thin.ensures.ok

pub wait-requires : goal.wait-requires
wait-requires c =
    c.self.invariant.there c.args.object c.in-Fat.index
    (lock_is c.self.inside.words.items _ _ _ c.as_slice.ensures.value (c.in-Fat.ensures.same ∙ c.word_of-word.ensures))

pub returns-in_ok-add_waiting-in-Thin : goal.returns-in_ok-add_waiting-in-Thin
returns-in_ok-add_waiting-in-Thin c =
    let joins : Waits c.self.inside.table c.args.thread (Thin c.in-Thin.owner c.in-Thin.entries) c.from.result =
    waits _ _ _ _ _ c.if-owner-thread.true c.from.ensures in
    inflated_done (Wait c.args.object c.args.thread) c.self.inside.table c.add_waiting.new.self
    c.self.inside.words.items c.as_slice.result.now c.self.inside.limit c.args.self.now
    (Thin c.in-Thin.owner c.in-Thin.entries) c.fat.result c.self.view_is c.self.invariant c.requires.0
    c.as_slice.ensures.value (c.in-Thin.ensures.same ∙ c.word_of-word.ensures)
    (ap (λ (w : Word). w.lock) c.fat.ensures ∙ ap Fat c.in_ok-index-in-Thin.ensures.next.0)
    c.in_ok-index-in-Thin.ensures.next.1 joins.answer
    (rw (← joins.after) c.in_ok-add_waiting-in-Thin.ensures.ok) joins.joins refl

pub returns-in_ok-wait-in-Fat : goal.returns-in_ok-wait-in-Fat
returns-in_ok-wait-in-Fat c =
    record_done (Wait c.args.object c.args.thread) c.in_ok-wait-in-Fat.field-0 c.self.inside.table c.wait.new.self
    c.self.inside.words.items c.as_slice.result.now c.self.inside.limit c.in-Fat.index c.args.self.now
    c.self.view_is c.self.invariant c.requires.0 c.as_slice.ensures.value
    (c.in-Fat.ensures.same ∙ c.word_of-word.ensures) c.in_ok-wait-in-Fat.ensures.answer
    c.in_ok-wait-in-Fat.ensures.after refl
