use Rattle.std.proofs.Common.{◌++◌, replicate, ap, subst, ◌∙◌, arith}
use Rattle.machine.specs.Tops.{plain, AdvancesTop}
use Rattle.program_runs.proofs.worlds.Shared.{none_of}
use Rattle.program_runs.proofs.worlds.Committing.{committed_holds, committed_at, stale_holds}
use Rattle.program_runs.proofs.worlds.world.World.commit.Goals as goal

pub invariant_of-self-then-not-advanced : goal.invariant_of-self-then-not-advanced
invariant_of-self-then-not-advanced c = stale_holds _ c.self.invariant c.args.out c.advance.new.self (subst (λ is. AdvancesTop c.args.out.burst c.args.out.thread is c.self.inside.machine c.advance.new.self) c.if-not-advanced.true c.in_ok-advanced.ensures.advances) c.reserve.new.self.events c.reserve.ensures.same

pub invariant_of-self-2 : goal.invariant_of-self-2
invariant_of-self-2 c =
    let before = c.self.inside.recorded.events in
    committed_holds _ c.self.invariant c.args.out c.advance.new.self (none_of c.self.inside.end c.is_some.result c.is_some.ensures c.if-is_some.false)
    (omega (arith, c.if-steps-from.false, c.self.invariant.within, c.from.ensures, c.len.ensures, c.steps-steps.ensures)) (subst (λ is. AdvancesTop c.args.out.burst c.args.out.thread is c.self.inside.machine c.advance.new.self) c.if-not-advanced.false c.in_ok-advanced.ensures.advances) c.append.new.self.events
    (c.append.ensures ∙ ap (λ l. l ++ replicate c.steps-steps.result (plain c.args.out.thread)) c.reserve.ensures.same ∙ ap (λ k. before ++ replicate k (plain c.args.out.thread)) c.steps-steps.ensures)

pub returns-clause-done : goal.returns-clause-done
returns-clause-done c =
    let before = c.self.inside.recorded.events in
    committed_at _ c.self.invariant c.args.out c.advance.new.self (none_of c.self.inside.end c.is_some.result c.is_some.ensures c.if-is_some.false)
    (omega (arith, c.if-steps-from.false, c.self.invariant.within, c.from.ensures, c.len.ensures, c.steps-steps.ensures)) (subst (λ is. AdvancesTop c.args.out.burst c.args.out.thread is c.self.inside.machine c.advance.new.self) c.if-not-advanced.false c.in_ok-advanced.ensures.advances) c.append.new.self.events
    (c.append.ensures ∙ ap (λ l. l ++ replicate c.steps-steps.result (plain c.args.out.thread)) c.reserve.ensures.same ∙ ap (λ k. before ++ replicate k (plain c.args.out.thread)) c.steps-steps.ensures)
    c.args.self.now c.self.view_is
