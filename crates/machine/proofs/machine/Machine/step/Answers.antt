use Rattle.std.proofs.Common.{Ok, refl, subst, sym}
use Rattle.machine_state.specs.declared.answers.Answer.TheVariants as answer
use Rattle.heap.specs.java_threads.Table.{IsWithin}
use Rattle.machine.proofs.Turning.{is_lent, is_not_lent, steps_at, numbered, none_is, able, turned, still_machine}
use Rattle.machine.proofs.machine.Machine.step.Goals as goal

pub returns-then-not-lend : goal.returns-then-not-lend
returns-then-not-lend c =
    let none = is_not_lent c.args.event.thread c.lend.result _ _ _ _ c.if-not-lend.true c.lend.ensures in
    steps_at (Ok answer.NotEnabled) c.args.event _ c.args.self.now _ (sym c.self.view_is) (refl, λ files trees inflated state shows. (none_is trees _ _ inflated c.self.inside.shared state shows.shown c.args.event none.0, record { rest = refl; stacks = none.1 }))

pub thread_event-result-requires-clause-able : goal.thread_event-result-requires-clause-able
thread_event-result-requires-clause-able c =
    let some = is_lent c.args.event.thread c.lend.result _ _ _ _ c.if-not-lend.false c.lend.ensures in
    able c.stacks_are_lent.ensures.holds _ c.self.invariant _ c.deref.ensures c.args.event.thread _ some.0 _ _ (record { rest = refl; stacks = some.1 })

pub thread_event-result-requires-clause-numbered : goal.thread_event-result-requires-clause-numbered
thread_event-result-requires-clause-numbered c =
    let some = is_lent c.args.event.thread c.lend.result _ _ _ _ c.if-not-lend.false c.lend.ensures in
    let is = c.self.invariant.is in
    numbered _ _ _ _ c.self.inside.shared _ is.shown c.args.event.thread _ some.0 _ (subst (λ n. IsWithin n c.self.inside.shared.threads.limit) c.len-numbered.ensures.length c.len-numbered.ensures.within)

pub invariant_of-self-2 : goal.invariant_of-self-2
invariant_of-self-2 c =
    let some = is_lent c.args.event.thread c.lend.result _ _ _ _ c.if-not-lend.false c.lend.ensures in
    let is = c.self.invariant in
    still_machine _ c.args.event c.thread_event-result.result _ is.files is.trees is.inflated is.state is.is
    (turned c.stacks_are_lent.ensures.holds c.events_are_whole.ensures.holds _ _ c.deref.ensures c.args.event _ some.0 _ _ (record { rest = refl; stacks = some.1 }) _ _ _ c.thread_event-result.ensures _ (record { rest = refl; stacks = c.give_back.ensures }) is.files is.trees is.inflated is.state is.is)

pub returns : goal.returns
returns c =
    let some = is_lent c.args.event.thread c.lend.result _ _ _ _ c.if-not-lend.false c.lend.ensures in
    steps_at c.thread_event-result.result c.args.event _ c.args.self.now _ (sym c.self.view_is)
    (refl, turned c.stacks_are_lent.ensures.holds c.events_are_whole.ensures.holds _ _ c.deref.ensures c.args.event _ some.0 _ _ (record { rest = refl; stacks = some.1 }) _ _ _ c.thread_event-result.ensures _ (record { rest = refl; stacks = c.give_back.ensures }))
