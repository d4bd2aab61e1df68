use Rattle.std.proofs.Common.{refl, sym, arith}
use Rattle.machine.proofs.Turning.{is_lent, is_not_lent}
use Rattle.machine.proofs.Lent.{no_thread, may_go, has_place, went, machine_after, repeats_at}
use Rattle.machine.proofs.machine.Machine.steps.Goals as goal

pub returns-then-not-lend : goal.returns-then-not-lend
returns-then-not-lend c =
    let none = is_not_lent c.args.thread c.lend.result _ _ _ _ c.if-not-lend.true c.lend.ensures in
    repeats_at _ _ c.args.most _ c.args.self.now _ (sym c.self.view_is)
    (no_thread _ c.args.thread c.args.most _ none.0 (record { rest = refl; stacks = none.1 }) (omega (arith, c.if-most-eq0.false)))

pub thread_turns-result-requires-clause-able : goal.thread_turns-result-requires-clause-able
thread_turns-result-requires-clause-able c =
    let some = is_lent c.args.thread c.lend.result _ _ _ _ c.if-not-lend.false c.lend.ensures in
    may_go _ _ c.deref.ensures c.args.thread _ _ some.0 _ (record { rest = refl; stacks = some.1 }) c.self.invariant

pub thread_turns-result-requires-clause-there : goal.thread_turns-result-requires-clause-there
thread_turns-result-requires-clause-there c =
    let some = is_lent c.args.thread c.lend.result _ _ _ _ c.if-not-lend.false c.lend.ensures in
    has_place _ _ c.args.thread _ _ some.0 some.1

pub invariant_of-self-2 : goal.invariant_of-self-2
invariant_of-self-2 c =
    let some = is_lent c.args.thread c.lend.result _ _ _ _ c.if-not-lend.false c.lend.ensures in
    machine_after c.thread_turns-result.result _ c.args.most _ _
    (went _ _ c.deref.ensures c.args.thread _ _ some.0 _ (record { rest = refl; stacks = some.1 }) c.thread_turns-result.result c.args.most _ _ c.thread_turns-result.ensures _ (record { rest = refl; stacks = c.give_back.ensures }))
    c.self.invariant

pub returns : goal.returns
returns c =
    let some = is_lent c.args.thread c.lend.result _ _ _ _ c.if-not-lend.false c.lend.ensures in
    repeats_at c.thread_turns-result.result _ c.args.most _ c.args.self.now _ (sym c.self.view_is)
    (went _ _ c.deref.ensures c.args.thread _ _ some.0 _ (record { rest = refl; stacks = some.1 }) c.thread_turns-result.result c.args.most _ _ c.thread_turns-result.ensures _ (record { rest = refl; stacks = c.give_back.ensures }))
